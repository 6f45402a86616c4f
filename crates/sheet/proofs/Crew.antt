-- Reading the workers one by one: the rows so far, and what is left to read.
use Rattle.std.proofs.Common.{◌≡◌, ℕ, zero, suc, ◌+◌, ◌-◌, ◌<◌, ◌≤◌, true, ◌≢◌, List, [], ◌∷◌, ◌++◌, length, set, Ok, Err, Result, sym, refl, ap, ◌∙◌, add-one, arith}
use Rattle.std.proofs.lemmas.List.{get_or-set_same, get_or-set_other}
use Rattle.std.proofs.lemmas.Bool.{eq-eqb, ne_eqb, lt-ltb}
use Rattle.fleet.specs.Market.{Market}
use Rattle.fleet.specs.Sets.{all_under}
use Rattle.fleet.specs.Lists.{with_list, replaced}
use Rattle.sheet.specs.declared.faults.FieldFault.{FieldFault}
use Rattle.sheet.specs.declared.faults.SheetFault.{SheetFault}
use Rattle.sheet.specs.declared.faults.SheetFault.TheVariants as fault
use Rattle.sheet.specs.declared.fields.Size.{Size}
use Rattle.sheet.specs.declared.fields.Due.TheVariants.{NextWorker}
use Rattle.sheet.specs.Framing.{place_after}
use Rattle.sheet.specs.Fields.{Field, field_due}
use Rattle.sheet.specs.Sheets.{WorkerRow, rows_of}
use Rattle.sheet.specs.Reading.{Progress, and_then, lifted, made_of, worker_row, add_worker, worker_due, read_workers, crew_text}

module _ (m : Market) (classes : List ℕ) (w class : ℕ) (list : List ℕ) where
  -- a worker's row leaves the rows before it
  rows_kept : (n : ℕ) → n ≤ w → rows_of (with_list m w list) (set classes w class) n ≡ rows_of m classes n
  rows_kept zero h = refl
  rows_kept (suc n) h =
      let other : n ≢ w = omega arith in
      rw (rows_kept n (omega arith), get_or-set_other classes w n class 0 other, ne_eqb n w other)

  -- one worker more
  pub rows_more : w < length classes → rows_of (with_list m w list) (set classes w class) (w + 1) ≡ rows_of m classes w ++ (record { class = class; list = list } ∷ [])
  rows_more h = rw (add-one, rows_kept w (omega arith), get_or-set_same classes w class 0 h, eq-eqb w w refl)

-- what is read after one worker more
abbrev pub after_worker : List ℕ → Progress → WorkerRow → Progress
after_worker bytes d r = record { place = place_after bytes d.place; lowest = d.lowest; text = add_worker d.text r }

module _ (n w : ℕ) (size : Size) (bytes : List ℕ) (d : Progress) where
  -- what is left to read from the next worker on
  abbrev left_with : Result Field FieldFault → Result Progress SheetFault
  left_with r = and_then (lifted r) (λ f. read_workers (n - (w + 1)) size bytes (after_worker bytes d (worker_row f.content)))

  left_is : w < n → read_workers (n - w) size bytes d ≡ left_with (field_due NextWorker size bytes d.place)
  left_is h = let e : n - w ≡ suc (n - (w + 1)) = omega arith in rw e refl

  pub workers_more : (r : WorkerRow) → w < n → worker_due size bytes d.place ≡ Ok r → read_workers (n - w) size bytes d ≡ read_workers (n - (w + 1)) size bytes (after_worker bytes d r)
  workers_more r h e = left_is h ∙ go (field_due NextWorker size bytes d.place) e
    where
      go : (x : Result Field FieldFault) → made_of worker_row x ≡ Ok r → left_with x ≡ read_workers (n - (w + 1)) size bytes (after_worker bytes d r)
      go (Ok f) e = let same : worker_row f.content ≡ r = cc in ap (λ (r : WorkerRow). read_workers (n - (w + 1)) size bytes (after_worker bytes d r)) same
      go (Err f) e = absurd (let z : ◌≡◌ {A = ℕ} 0 1 = cc in omega arith)

  pub workers_fault : (f : FieldFault) → w < n → worker_due size bytes d.place ≡ Err f → read_workers (n - w) size bytes d ≡ Err (fault.Field f)
  workers_fault f h e = left_is h ∙ go (field_due NextWorker size bytes d.place) e
    where
      go : (x : Result Field FieldFault) → made_of worker_row x ≡ Err f → left_with x ≡ Err (fault.Field f)
      go (Ok g) e = absurd (let z : ◌≡◌ {A = ℕ} 0 1 = cc in omega arith)
      go (Err g) e = let same : g ≡ f = cc in ap (λ (x : FieldFault). Err (fault.Field x)) same

-- a good list of a worker that there is replaces the worker's list
pub list_set : (m : Market) (w : ℕ) (l : List ℕ) → w < m.workers → all_under m.tenants l ≡ true → replaced m w l ≡ with_list m w l
list_set m w l h good = rw (lt-ltb w m.workers h, good) refl

-- one worker more, where the program holds the lists m and the classes, and the next worker is read
pub crew_more : (n w : ℕ) (size : Size) (bytes : List ℕ) (m : Market) (classes : List ℕ) (place : ℕ) (r : WorkerRow) → w < n → w < length classes → worker_due size bytes place ≡ Ok r →
    read_workers (n - w) size bytes (record { place = place; lowest = 3; text = crew_text m classes w })
    ≡ read_workers (n - (w + 1)) size bytes (record { place = place_after bytes place; lowest = 3; text = crew_text (with_list m w r.list) (set classes w r.class) (w + 1) })
crew_more n w size bytes m classes place r h k e =
    workers_more n w size bytes (record { place = place; lowest = 3; text = crew_text m classes w }) r h e
    ∙ ap (λ (rows : List WorkerRow). read_workers (n - (w + 1)) size bytes (record { place = place_after bytes place; lowest = 3; text = record { workers = rows; ranked = []; seated = []; tables = []; quarantine = [] } }))
    (sym (rows_more m classes w r.class r.list k))
