-- Written rows of one kind are read one after the other.
use Rattle.std.proofs.Common.{◌≡◌, ℕ, suc, ◌+◌, ◌≤◌, Bool, true, List, [], ◌∷◌, ◌++◌, length, Some, Ok, Option, Result, refl, ap, ◌∙◌, append_assoc, suc-add, zero-add, arith}
use Rattle.std.specs.List.{flat_map}
use Rattle.std.proofs.lemmas.List.{append-nil}
use Rattle.std.proofs.lemmas.Bool.{and_parts}
use Rattle.std.proofs.lemmas.Bool.Decides.{nat_tests}
use Rattle.sheet.specs.declared.faults.SheetFault.{SheetFault}
use Rattle.sheet.specs.declared.fields.Due.TheVariants.{NextWorker, NextTenant}
use Rattle.sheet.specs.declared.fields.Kind.{Kind}
use Rattle.sheet.specs.declared.fields.Kind.TheVariants.{Worker, Ranked, Seated, Table}
use Rattle.sheet.specs.declared.fields.Size.{Size}
use Rattle.sheet.specs.Fields.{tag_of, kind_due}
use Rattle.policy.specs.Kinds.{RankedRule, SeatedRule}
use Rattle.policy.specs.Tables.{TableRule}
use Rattle.policy.specs.declared.fault.TableFault.{TableFault}
use Rattle.sheet.specs.Sheets.{SheetText, WorkerRow}
use Rattle.sheet.specs.Sheets.{worker_content, ranked_content, seated_content, table_content, written, broken_law}
use Rattle.sheet.specs.Sheets.{all, good_worker, good_ranked, good_seated, good_table}
use Rattle.sheet.specs.Reading.{Progress, with_table, tenant_text, read_workers, read_tenants}
use Rattle.sheet.proofs.Passing.{Passes}
use Rattle.sheet.proofs.Rows.{worker_rows, ranked_rows, seated_rows, table_rows}
use Rattle.sheet.proofs.WellFormed.{with_workers, table_parts}
use Rattle.sheet.proofs.FieldWritten.{read_written}

-- what is read so far: the place, the lowest tag and the text
abbrev pub state : ℕ → ℕ → SheetText → Progress
state place lowest text = record { place = place; lowest = lowest; text = text }

-- one turn of a reader reads one row of a kind, whose fields are f, and puts it into the text; a row of the kind may follow
pub record Turn (R : Type 0) (f : R → List ℕ) (good : R → Bool) (put : List R → SheetText) (bytes : List ℕ)
    (run : ℕ → Progress → Result Progress SheetFault) (most : ℕ) : Type 0 where
  pub step : (k low : ℕ) (xs : List R) (r : R) (pre rest : List ℕ) → good r ≡ true → low ≤ most → bytes ≡ pre ++ (f r ++ rest) →
      (next : ℕ) × (next ≤ most) × (run (suc k) (state (length pre) low (put xs)) ≡ run k (state (length (pre ++ f r)) next (put (xs ++ (r ∷ [])))))

-- so all rows of the kind are read
pub rows_read : {R : Type 0} {f : R → List ℕ} {good : R → Bool} {put : List R → SheetText} {bytes : List ℕ} {run : ℕ → Progress → Result Progress SheetFault} {most : ℕ} →
    Turn R f good put bytes run most → (rows xs : List R) (pre rest : List ℕ) (k low : ℕ) → all good rows ≡ true → low ≤ most → bytes ≡ pre ++ (flat_map f rows ++ rest) →
    (next : ℕ) × (next ≤ most) × (run (length rows + k) (state (length pre) low (put xs)) ≡ run k (state (length (pre ++ flat_map f rows)) next (put (xs ++ rows))))
rows_read turn [] xs pre rest k low g l e = (low, l, rw (zero-add, append-nil pre, append-nil xs))
rows_read {f = f} {good = good} {bytes = bytes} turn (r ∷ rs) xs pre rest k low g l e =
    let p = and_parts (good r) (all good rs) g in
    let here : bytes ≡ pre ++ (f r ++ (flat_map f rs ++ rest)) = simp append_assoc at e in
    let first = turn.step (length rs + k) low xs r pre (flat_map f rs ++ rest) p.0 l here in
    let others = rows_read turn rs (xs ++ (r ∷ [])) (pre ++ f r) rest k first.0 p.1 first.1 (simp append_assoc here) in
    (others.0, others.1, rw suc-add (first.2 ∙ simp append_assoc at others.2))

-- the texts with so many tenants of a kind, where those of the kinds before it are all there

abbrev pub with_ranked : SheetText → List RankedRule → SheetText
with_ranked s rows = record { workers = s.workers; ranked = rows; seated = []; tables = []; quarantine = [] }

abbrev pub with_seated : SheetText → List SeatedRule → SheetText
with_seated s rows = record { workers = s.workers; ranked = s.ranked; seated = rows; tables = []; quarantine = [] }

abbrev pub with_tables : SheetText → List TableRule → SheetText
with_tables s rows = record { workers = s.workers; ranked = s.ranked; seated = s.seated; tables = rows; quarantine = [] }

module _ (n : Size) (bytes : List ℕ) where
  -- the turn for workers, and that for tenants of a kind

  pub worker_turn : n.tenants ≤ 16 →
      Turn WorkerRow (λ r. written Worker (worker_content r)) (good_worker n.tenants) with_workers bytes (λ k d. read_workers k n bytes d) 3
  worker_turn few = record {
    step = λ k low xs r pre rest g l e.
        let q = read_written NextWorker n bytes pre rest Worker (worker_content r) e refl ((worker_rows n few).writes r g).0 in
        (low, l, rw (q.0, q.1));
  }

  abbrev ReadsTenants : (R : Type 0) → Kind → (R → List ℕ) → (R → Bool) → (List R → SheetText) → Type 0
  ReadsTenants R kind content good put = Turn R (λ r. written kind (content r)) good put bytes (λ k d. read_tenants k n bytes d) (tag_of kind)

  tenant_turn : (R : Type 0) (kind : Kind) (content : R → List ℕ) (good : R → Bool) (put : List R → SheetText) →
      ((low : ℕ) → low ≤ tag_of kind → kind_due (NextTenant low) (tag_of kind) ≡ Some kind) → ((r : R) → good r ≡ true → Passes kind n (content r)) →
      ((xs : List R) (r : R) (at : ℕ) → good r ≡ true → tenant_text (put xs) at (content r) kind ≡ Ok (put (xs ++ (r ∷ [])))) →
      ReadsTenants R kind content good put
  tenant_turn R kind content good put due passing adds = record {
    step = λ k low xs r pre rest g l e.
        let q = read_written (NextTenant low) n bytes pre rest kind (content r) e (due low l) (passing r g) in
        (tag_of kind, omega arith, rw (q.0, adds xs r (length pre) g, q.1));
  }

  module _ (few : n.workers ≤ 64) (s : SheetText) where
    pub ranked_turn : ReadsTenants RankedRule Ranked ranked_content (good_ranked n.workers) (with_ranked s)
    ranked_turn = tenant_turn RankedRule Ranked ranked_content (good_ranked n.workers) (with_ranked s) (λ low l. grind (arith, nat_tests))
        (λ r g. ((ranked_rows n few).writes r g).0) (λ xs r at g. refl)

    pub seated_turn : ReadsTenants SeatedRule Seated seated_content (good_seated n.workers) (with_seated s)
    seated_turn = tenant_turn SeatedRule Seated seated_content (good_seated n.workers) (with_seated s) (λ low l. grind (arith, nat_tests))
        (λ r g. ((seated_rows n few).writes r g).0) (λ xs r at g. rw ((seated_rows n few).writes r g).1)

  module _ (s : SheetText) where
    table_adds : (xs : List TableRule) (r : TableRule) (at : ℕ) → good_table n.workers r ≡ true →
        tenant_text (with_tables s xs) at (table_content r) Table ≡ Ok (with_tables s (xs ++ (r ∷ [])))
    table_adds xs r at g =
        let p = table_parts n.workers r g in
        ap (λ (row : TableRule). with_table at (with_tables s xs) row (broken_law row.entries)) ((table_rows n).writes r p.0).1
        ∙ ap (λ (law : Option TableFault). with_table at (with_tables s xs) r law) p.1

    pub table_turn : ReadsTenants TableRule Table table_content (good_table n.workers) (with_tables s)
    table_turn = tenant_turn TableRule Table table_content (good_table n.workers) (with_tables s) (λ low l. grind (arith, nat_tests))
        (λ r g. ((table_rows n).writes r (table_parts n.workers r g).0).0) table_adds
