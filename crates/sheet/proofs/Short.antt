-- A sheet has at most 5,624 bytes.
use Rattle.std.proofs.Common.{◌≡◌, ℕ, ◌+◌, ◌*◌, ◌≤◌, Bool, true, List, [], ◌∷◌, ◌++◌, length, arith, length-append}
use Rattle.std.specs.List.{flat_map}
use Rattle.std.proofs.lemmas.Bool.{and_parts}
use Rattle.std.proofs.lemmas.Bool.Decides.{nat_tests}
use Rattle.sheet.specs.declared.fields.Kind.{Kind}
use Rattle.sheet.specs.declared.fields.Size.{Size}
use Rattle.sheet.specs.declared.fields.Kind.TheVariants.{Worker, Ranked, Seated, Table, Quarantine}
use Rattle.policy.specs.Tables.{TableRule}
use Rattle.sheet.specs.Sheets.{WorkerRow, worker_content, ranked_content, seated_content, table_content, written}
use Rattle.sheet.specs.Sheets.{all, good_worker, good_ranked, good_seated, good_table}
use Rattle.sheet.specs.Laws.{Short}
use Rattle.sheet.proofs.Passing.{longest}
use Rattle.sheet.proofs.Rows.{Rows, worker_bytes, ranked_bytes, seated_bytes, table_bytes, size_few, worker_rows, ranked_rows, seated_rows, table_rows}
use Rattle.sheet.proofs.Numbers.{short_list}
use Rattle.sheet.proofs.WellFormed.{size_in, well_parts, table_parts}

-- rows of at most so many bytes each
rows_short : {R : Type 0} (f : R → List ℕ) (good : R → Bool) (most : ℕ) → ((r : R) → good r ≡ true → length (f r) ≤ most) →
    (rows : List R) → all good rows ≡ true → length (flat_map f rows) ≤ length rows * most
rows_short f good most each [] h = omega arith
rows_short f good most each (r ∷ rs) h =
    let p = and_parts (good r) (all good rs) h in
    let here = each r p.0 in
    let others = rows_short f good most each rs p.1 in
    rw (length-append (f r) (flat_map f rs)) (omega arith)

-- a tenant has at most 267 bytes
tenant_short : {k : Kind} {s : Size} {R : Type 0} {row : List ℕ → R} {content : R → List ℕ} {good : R → Bool} → Rows k s R row content good →
    (r : R) → good r ≡ true → length (written k (content r)) ≤ 267
tenant_short {k = k} {content = content} rows r h = omega (arith, longest k (length (content r)) (rows.writes r h).0.long)

-- and a worker at most 20
worker_short : (n : Size) → n.tenants ≤ 16 → (r : WorkerRow) → good_worker n.tenants r ≡ true → length (written Worker (worker_content r)) ≤ 20
worker_short n few r h = let long = ((worker_rows n few).writes r h).0.long in grind (arith, nat_tests)

lengths : (a b c d e : List ℕ) → length (a ++ (b ++ (c ++ (d ++ e)))) ≡ length a + (length b + (length c + (length d + length e)))
lengths a b c d e = simp length-append

pub short : Short
short s h =
    let w = well_parts s h in
    let n = size_in s in
    let few = size_few n w.counts in
    let workers = rows_short (λ r. written Worker (worker_content r)) (good_worker n.tenants) 20 (worker_short n few.1) s.workers w.workers in
    let ranked = rows_short (λ r. written Ranked (ranked_content r)) (good_ranked n.workers) 267 (tenant_short (ranked_rows n few.0)) s.ranked w.ranked in
    let seated = rows_short (λ r. written Seated (seated_content r)) (good_seated n.workers) 267 (tenant_short (seated_rows n few.0)) s.seated w.seated in
    let table_short = λ (r : TableRule) (g : good_table n.workers r ≡ true). tenant_short (table_rows n) r (table_parts n.workers r g).0 in
    let tables = rows_short (λ r. written Table (table_content r)) (good_table n.workers) 267 table_short s.tables w.tables in
    let quarantine = short_list n.workers s.quarantine w.quarantine in
    let end = written Quarantine s.quarantine in
    rw (lengths (worker_bytes s.workers) (ranked_bytes s.ranked) (seated_bytes s.seated) (table_bytes s.tables) end) (omega (arith, few))
