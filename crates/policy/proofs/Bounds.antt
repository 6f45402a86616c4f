-- What a test of all numbers of a list tells of the number at each place.
use Rattle.std.proofs.Common.{◌≡◌, ℕ, ◌<◌, ◌≤◌, Bool, true, ◌&&◌, ltb, ◌⊎◌, List, [], ◌∷◌, length, get_or, refl, ap, inl, inr, arith}
use Rattle.std.specs.List.{list_all}
use Rattle.std.proofs.lemmas.List.{get_or_past}
use Rattle.std.proofs.lemmas.Bool.{cases_lt}
use Rattle.fleet.specs.Sets.{all_under}
use Rattle.fleet.proofs.Different.{among_getD, under_each}

-- past the end of the list the number is 0
pub under_at : (n : ℕ) (l : List ℕ) → 0 < n → all_under n l ≡ true → (i : ℕ) → get_or l i 0 < n
under_at n l some h i = go (cases_lt i (length l))
  where
    go : (i < length l) ⊎ (length l ≤ i) → get_or l i 0 < n
    go (inl k) = under_each n l h (get_or l i 0) (among_getD l i 0 k)
    go (inr k) = omega (arith, get_or_past l i 0 k)

pub under_all : (n : ℕ) (l : List ℕ) → list_all (λ u. ltb u n) l ≡ all_under n l
under_all n [] = refl
under_all n (u ∷ us) = ap (λ (b : Bool). ltb u n && b) (under_all n us)
