-- How many workers a table has, by the length of its content.
use Rattle.std.proofs.Common.{◌≡◌, ℕ, ◌+◌, ◌^◌, ◌<◌, ◌≤◌, eqb, ◌⊎◌, Some, None, Option, refl, ap, inl, inr, arith}
use native.Mathlib.Nat.{pow-le-pow_right}
use Rattle.std.proofs.lemmas.Bool.{both_ways, cases_order, eq-eqb, eqb-true}
use Rattle.policy.specs.Search.{Least}
use Rattle.policy.specs.Searches.{seek_least}
use Rattle.sheet.specs.Fields.{table_workers}

-- n workers and 2 ^ n entries are more for more workers
longer : (a b : ℕ) → a < b → a + 2 ^ a < b + 2 ^ b
longer a b h = omega (arith, pow-le-pow_right {n = 2} (omega arith) {i = a} {j = b} (omega arith))

pub table_found : (len n : ℕ) → table_workers len ≡ Some n → (n ≤ 8) × (n + 2 ^ n ≡ len)
table_found len n e = let h = rw e at (seek_least 9 (λ m. eqb (m + 2 ^ m) len)) in (omega arith, eqb-true (n + 2 ^ n) len h.1)

pub found_table : (n : ℕ) → n ≤ 8 → table_workers (n + 2 ^ n) ≡ Some n
found_table n h = go (table_workers (n + 2 ^ n)) (seek_least 9 (λ m. eqb (m + 2 ^ m) (n + 2 ^ n)))
  where
    same : (z : ℕ) → z + 2 ^ z ≡ n + 2 ^ n → (z ≡ n) ⊎ ((z < n) ⊎ (n < z)) → z ≡ n
    same z e (inl k) = k
    same z e (inr (inl k)) = absurd (omega (arith, longer z n k))
    same z e (inr (inr k)) = absurd (omega (arith, longer n z k))

    go : (o : Option ℕ) → Least 9 (λ m. eqb (m + 2 ^ m) (n + 2 ^ n)) o → o ≡ Some n
    go None none = absurd (both_ways (eqb (n + 2 ^ n) (n + 2 ^ n)) (none n (omega arith)) (eq-eqb (n + 2 ^ n) (n + 2 ^ n) refl))
    go (Some z) (l, e, _) = ap (λ m. Some m) (same z (eqb-true (z + 2 ^ z) (n + 2 ^ n) e) (cases_order z n))

pub table_short : (len n : ℕ) → table_workers len ≡ Some n → len ≤ 264
table_short len n e =
    let found = table_found len n e in
    omega (arith, pow-le-pow_right {n = 2} (omega arith) {i = n} {j = 8} found.0)
