-- What a field that is due says is well formed.
use Rattle.std.proofs.Common.{◌≡◌, ℕ, ◌+◌, ◌<◌, ◌≤◌, true, ltb, List, [], ◌∷◌, get_or, Ok, refl, arith}
use Rattle.std.proofs.lemmas.Bool.{and_parts, and_from}
use Rattle.std.proofs.lemmas.Bool.Decides.{nat_tests}
use Rattle.fleet.specs.Sets.{all_under}
use Rattle.fleet.specs.Market.{different}
use Rattle.sheet.specs.declared.fields.Due.TheVariants.{First, NextWorker, Last}
use Rattle.sheet.specs.declared.fields.Kind.TheVariants.{Counts, Worker, Quarantine}
use Rattle.sheet.specs.declared.fields.Size.{Size}
use Rattle.sheet.specs.Fields.{Field, field_due}
use Rattle.sheet.specs.Sheets.{is_list, good_worker}
use Rattle.sheet.specs.Reading.{worker_row, size_of}
use Rattle.sheet.proofs.Rows.{good_size, counts_rows, worker_rows, quarantine_rows}
use Rattle.sheet.proofs.FieldRead.{came_only}

under_more : (m n : ℕ) (l : List ℕ) → m ≤ n → all_under m l ≡ true → all_under n l ≡ true
under_more m n [] h e = refl
under_more m n (x ∷ xs) h e =
    let p = and_parts (ltb x m) (all_under m xs) e in
    let small = p.0 in
    and_from (ltb x n) (all_under n xs) (grind (arith, nat_tests)) (under_more m n xs h p.1)

-- a list below a bound is one below every larger bound
pub list_wider : (m n : ℕ) (l : List ℕ) → m ≤ n → is_list m l ≡ true → is_list n l ≡ true
list_wider m n l h e = let p = and_parts (all_under m l) (different l) e in and_from (all_under n l) (different l) (under_more m n l h p.0) p.1

module _ (s : Size) (bytes : List ℕ) (at : ℕ) (octets : (k : ℕ) → get_or bytes k 0 < 256) (f : Field) where
  pub size_good : field_due First s bytes at ≡ Ok f → good_size (size_of f.content) ≡ true
  size_good e = ((counts_rows s).reads f.content (came_only First Counts (λ tag. refl) s bytes at f (octets (at + 1)) e).passing).0

  pub worker_good : s.tenants ≤ 16 → field_due NextWorker s bytes at ≡ Ok f → good_worker s.tenants (worker_row f.content) ≡ true
  worker_good h e = ((worker_rows s h).reads f.content (came_only NextWorker Worker (λ tag. refl) s bytes at f (octets (at + 1)) e).passing).0

  pub quarantine_good : s.workers ≤ 64 → field_due Last s bytes at ≡ Ok f → is_list s.workers f.content ≡ true
  quarantine_good h e = ((quarantine_rows s h).reads f.content (came_only Last Quarantine (λ tag. refl) s bytes at f (octets (at + 1)) e).passing).0
