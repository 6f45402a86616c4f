-- Bytes that are read are those of the sheet that they say, and that sheet is well formed.
use Rattle.std.proofs.Common.{◌≡◌, ℕ, zero, suc, ◌+◌, ◌≤◌, Bool, true, false, cond, ltb, List, [], ◌∷◌, ◌++◌, length, take, Ok, Err, Result, sym, refl, ap, ◌∙◌, subst, ap₂, subst₂, append_assoc, arith}
use Rattle.std.proofs.lemmas.List.{append-nil, length_push, flat_map_more, take_all}
use Rattle.std.proofs.lemmas.Bool.{ltb-false}
use Rattle.sheet.specs.declared.faults.FieldFault.{FieldFault}
use Rattle.sheet.specs.declared.faults.FieldFault.TheVariants.{Surplus}
use Rattle.sheet.specs.declared.faults.SheetFault.{SheetFault}
use Rattle.sheet.specs.declared.faults.SheetFault.TheVariants as fault
use Rattle.sheet.specs.declared.fields.Due.TheVariants.{First, NextWorker, NextTenant, Last}
use Rattle.sheet.specs.declared.fields.Kind.TheVariants.{Counts, Worker, Quarantine}
use Rattle.sheet.specs.declared.fields.Size.{Size}
use Rattle.sheet.specs.Framing.{place_after}
use Rattle.sheet.specs.Fields.{Field, tag_of, field_due}
use Rattle.sheet.specs.Sheets.{SheetText, WorkerRow, worker_content, written, encode, all, good_worker, well_formed}
use Rattle.sheet.specs.Reading.{Progress, and_then, lifted, no_size, size_of, worker_row, with_quarantine, tenant_text, read_workers, read_tenants, read_end}
use Rattle.sheet.specs.Laws.{Bytes, ReadIsWritten}
use Rattle.sheet.proofs.Rows.{worker_bytes, good_size, size_few, size_content, counts_rows, worker_rows, quarantine_rows}
use Rattle.sheet.proofs.WellFormed.{size_in, with_workers, Well, well_whole}
use Rattle.sheet.proofs.FieldRead.{Came, read_came, came_only}
use Rattle.sheet.proofs.OneMore.{rows_bytes, all_push, Holds, tenant_more}

-- what was read first, where something was read after it

then_read : {X Y : Type 0} (r : Result X SheetFault) (f : X → Result Y SheetFault) (y : Y) → and_then r f ≡ Ok y → (x : X) × (r ≡ Ok x) × (f x ≡ Ok y)
then_read (Ok x) f y h = (x, refl, h)
then_read (Err e) f y h = absurd (grind arith)

field_read : {X : Type 0} (r : Result Field FieldFault) (f : Field → Result X SheetFault) (x : X) → and_then (lifted r) f ≡ Ok x → (g : Field) × (r ≡ Ok g) × (f g ≡ Ok x)
field_read (Ok g) f x h = (g, refl, h)
field_read (Err e) f x h = absurd (grind arith)

end_read : (bytes : List ℕ) (at : ℕ) (t s : SheetText) → read_end bytes at t ≡ Ok s → (length bytes ≤ at) × (t ≡ s)
end_read bytes at t s = go (ltb at (length bytes)) refl
  where
    go : (b : Bool) → ltb at (length bytes) ≡ b → cond b (Err (fault.Field (Surplus at))) (Ok t) ≡ Ok s → (length bytes ≤ at) × (t ≡ s)
    go true e h = absurd (grind arith)
    go false e h = (ltb-false at (length bytes) e, cc)

-- the bytes of a sheet: its counts and rows, and then its quarantine
encoded : (s : SheetText) → encode s ≡ (written Counts (size_content (size_in s)) ++ rows_bytes s) ++ written Quarantine s.quarantine
encoded s = simp append_assoc

module _ (n : Size) (few : (n.workers ≤ 64) × (n.tenants ≤ 16)) (bytes : List ℕ) (small : Bytes bytes) (head : List ℕ) where
  abbrev HoldsOf : ℕ → Progress → Type 0
  HoldsOf tenants d = Holds n bytes head tenants d.place d.lowest d.text

  workers_read : (k at : ℕ) (rows : List WorkerRow) (e : Progress) → length rows + k ≡ n.workers → take at bytes ≡ head ++ worker_bytes rows →
      all (good_worker n.tenants) rows ≡ true → read_workers k n bytes (record { place = at; lowest = 3; text = with_workers rows }) ≡ Ok e → HoldsOf 0 e
  workers_read zero at rows e sum so_far good h =
      let same : record { place = at; lowest = 3; text = with_workers rows } ≡ e = cc in
      subst (HoldsOf 0) same (record {
        so_far = rw (append-nil (worker_bytes rows)) so_far;
        worker_count = omega arith;
        tenant_count = refl;
        workers = good;
        ranked = refl;
        seated = refl;
        tables = refl;
        no_seated = λ _. refl;
        no_tables = λ _. refl;
      })
  workers_read (suc k) at rows e sum so_far good h =
      let a = field_read (field_due NextWorker n bytes at) _ e h in
      let c = came_only NextWorker Worker (λ tag. refl) n bytes at a.0 (small (at + 1)) a.1 in
      let r = (worker_rows n few.1).reads a.0.content c.passing in
      let row = worker_row a.0.content in
      let further : take (place_after bytes at) bytes ≡ head ++ worker_bytes (rows ++ (row ∷ [])) =
      sym c.bytes_are ∙ ap₂ (λ (x y : List ℕ). x ++ written Worker y) so_far (sym r.1) ∙ flat_map_more (λ x. written Worker (worker_content x)) head rows row in
      let all-good = all_push (good_worker n.tenants) rows row good r.0 in
      workers_read k (place_after bytes at) (rows ++ (row ∷ [])) e (omega (arith, length_push rows row)) further all-good a.2

  tenants_read : (k tenants : ℕ) (d e : Progress) → tenants + k ≡ n.tenants → HoldsOf tenants d → read_tenants k n bytes d ≡ Ok e → HoldsOf n.tenants e
  tenants_read zero tenants d e sum i h =
      let same : d ≡ e = cc in
      let all_read : tenants ≡ n.tenants = omega arith in
      subst₂ HoldsOf all_read same i
  tenants_read (suc k) tenants d e sum i h =
      let a = field_read (field_due (NextTenant d.lowest) n bytes d.place) _ e h in
      let f = a.0 in
      let b = then_read (tenant_text d.text f.at f.content f.kind) _ e a.2 in
      let c = read_came (NextTenant d.lowest) n bytes d.place f (small (d.place + 1)) a.1 in
      let more = tenant_more n few.0 bytes head tenants d.place d.lowest d.text f.content i f.kind f.at b.0 c b.1 in
      tenants_read k (suc tenants) (record { place = place_after bytes d.place; lowest = tag_of f.kind; text = b.0 }) e (omega arith) more b.2

  -- the quarantine ends the bytes
  whole : (d : Progress) (q : List ℕ) → good_size n ≡ true → head ≡ written Counts (size_content n) → HoldsOf n.tenants d → Came Last n bytes d.place Quarantine q →
      length bytes ≤ place_after bytes d.place → (well_formed (with_quarantine d.text q) ≡ true) × (encode (with_quarantine d.text q) ≡ bytes)
  whole d q good first i c done =
      let s = with_quarantine d.text q in
      let end = written Quarantine q in
      let size : size_in s ≡ n = λ j. record { workers = i.worker_count j; tenants = i.tenant_count j } in
      let quarantine = ((quarantine_rows n few.0).reads q c.passing).0 in
      let well : Well n s = record { counts = good; workers = i.workers; ranked = i.ranked; seated = i.seated; tables = i.tables; quarantine = quarantine } in
      let counts : written Counts (size_content (size_in s)) ≡ head = ap (λ (m : Size). written Counts (size_content m)) size ∙ sym first in (
        well_whole s (subst (λ (m : Size). Well m s) (sym size) well),
        encoded s ∙ ap (λ l. (l ++ rows_bytes s) ++ end) counts ∙ ap (λ l. l ++ end) (sym i.so_far) ∙ c.bytes_are ∙ take_all (place_after bytes d.place) bytes done,
      )

pub read_is_written : ReadIsWritten
read_is_written bytes small s h =
    let a = field_read (field_due First no_size bytes 0) _ s h in
    let content = a.0.content in
    let n = size_of content in
    let c = came_only First Counts (λ tag. refl) no_size bytes 0 a.0 (small 1) a.1 in
    let size = (counts_rows no_size).reads content c.passing in
    let few = size_few n size.0 in
    let head = written Counts content in
    let w = then_read (read_workers n.workers n bytes (record { place = place_after bytes 0; lowest = 3; text = with_workers [] })) _ s a.2 in
    let workers = workers_read n few bytes small head n.workers (place_after bytes 0) [] w.0 (omega arith) (sym c.bytes_are ∙ sym (append-nil head)) refl w.1 in
    let t = then_read (read_tenants n.tenants n bytes w.0) _ s w.2 in
    let tenants = tenants_read n few bytes small head n.tenants 0 w.0 t.0 (omega arith) workers t.1 in
    let at = t.0.place in
    let q = field_read (field_due Last n bytes at) _ s t.2 in
    let last = came_only Last Quarantine (λ tag. refl) n bytes at q.0 (small (at + 1)) q.1 in
    let done = end_read bytes (place_after bytes at) (with_quarantine t.0.text q.0.content) s q.2 in
    subst (λ (x : SheetText). (well_formed x ≡ true) × (encode x ≡ bytes)) done.1
    (whole n few bytes small head t.0 q.0.content size.0 (ap (λ l. written Counts l) (sym size.1)) tenants last done.0)
