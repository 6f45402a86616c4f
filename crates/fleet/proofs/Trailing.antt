-- The lowest bit of a word stands behind its trailing zeros.
use Rattle.std.proofs.Common.{◌≡◌, ℕ, zero, suc, ◌/◌, ◌%◌, ◌<◌, ◌≤◌, true, false, cond, eqb, ltb, ◌⊎◌, Some, None, refl, ap, ◌∙◌, inl, inr, mod-lt, zero-lt-suc, arith}
use lib.Count.{count_trailing_zeros, under}
use Rattle.std.proofs.lemmas.Bool.{cases_lt, lt-ltb, le-ltb}
use Rattle.fleet.specs.Sets.{lowest}
use Rattle.fleet.specs.Members.{bit}
use Rattle.fleet.proofs.Bitwise.{bit_step, bit_zero}
use Rattle.fleet.proofs.First.{lowest_least, lowest_none}

pub trailing_bit : (k n : ℕ) → count_trailing_zeros k n < k → bit n (count_trailing_zeros k n) ≡ true
unfolding count_trailing_zeros
trailing_bit zero n h = absurd (omega arith)
trailing_bit (suc k) n h = go (n % 2) refl h (λ l. trailing_bit k (n / 2) l)
  where
    go : (d : ℕ) → n % 2 ≡ d → under d (count_trailing_zeros k (n / 2)) < suc k → (count_trailing_zeros k (n / 2) < k → bit (n / 2) (count_trailing_zeros k (n / 2)) ≡ true) →
        bit n (under d (count_trailing_zeros k (n / 2))) ≡ true
    go zero e l more = bit_step n (count_trailing_zeros k (n / 2)) ∙ more (omega arith)
    go (suc d) e l more = let q : n % 2 ≡ 1 = omega (arith, mod-lt n (zero-lt-suc 1)) in bit_zero n ∙ ap (λ (i : ℕ). eqb i 1) q

pub trailing_below : (k n u : ℕ) → u < count_trailing_zeros k n → bit n u ≡ false
unfolding count_trailing_zeros
trailing_below zero n u h = absurd (omega arith)
trailing_below (suc k) n u h = go (n % 2) refl u h (λ v l. trailing_below k (n / 2) v l)
  where
    go : (d : ℕ) → n % 2 ≡ d → (u : ℕ) → u < under d (count_trailing_zeros k (n / 2)) → ((v : ℕ) → v < count_trailing_zeros k (n / 2) → bit (n / 2) v ≡ false) → bit n u ≡ false
    go zero e zero l more = bit_zero n ∙ ap (λ (i : ℕ). eqb i 1) e
    go zero e (suc u) l more = bit_step n u ∙ more u (omega arith)
    go (suc d) e u l more = absurd (omega arith)

-- the lowest of k bits, if the zeros stop before the k-th
pub trailing_lowest : (k n : ℕ) → lowest k (bit n) ≡ cond (ltb (count_trailing_zeros k n) k) (Some (count_trailing_zeros k n)) None
trailing_lowest k n = go (cases_lt (count_trailing_zeros k n) k)
  where
    go : (count_trailing_zeros k n < k) ⊎ (k ≤ count_trailing_zeros k n) → lowest k (bit n) ≡ cond (ltb (count_trailing_zeros k n) k) (Some (count_trailing_zeros k n)) None
    go (inl l) = rw (lt-ltb (count_trailing_zeros k n) k l) (lowest_least k (bit n) (count_trailing_zeros k n) l (trailing_bit k n l) (trailing_below k n))
    go (inr l) = rw (le-ltb (count_trailing_zeros k n) k l) (lowest_none k (bit n) (λ u h. trailing_below k n u (omega arith)))
