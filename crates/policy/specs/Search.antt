-- The least number, and the least pair of numbers, that pass a test.
use Rattle.std.specs.Prelude.{◌≡◌, ℕ, zero, suc, ◌<◌, Bool, true, false, cond, ◌⊎◌, Some, None, Option}

-- the first of i, i + 1, .., i + k - 1 that passes
unfoldable pub seek : ℕ → ℕ → (ℕ → Bool) → Option ℕ
seek zero i p = None
seek (suc k) i p = cond (p i) (Some i) (seek k (suc i) p)

-- z with the y that was found for it, or else what is found further on
abbrev pub paired : ℕ → Option ℕ → Option (ℕ × ℕ) → Option (ℕ × ℕ)
paired z (Some y) further = Some (z, y)
paired z None further = further

-- the first z of i, .., i + k - 1 for which some y below n passes, with the least such y
unfoldable pub seek_pair : ℕ → ℕ → ℕ → (ℕ → ℕ → Bool) → Option (ℕ × ℕ)
seek_pair zero i n p = None
seek_pair (suc k) i n p = paired i (seek n 0 (p i)) (seek_pair k (suc i) n p)

-- what is found is the least number below n that passes, or nothing is found and none does
abbrev pub Least : ℕ → (ℕ → Bool) → Option ℕ → Type 0
Least n p (Some z) = (z < n) × (p z ≡ true) × ((a : ℕ) → a < z → p a ≡ false)
Least n p None = (a : ℕ) → a < n → p a ≡ false

-- the pair a, b comes before z, y: a is smaller, or it is equal and b is smaller
abbrev pub Before : ℕ → ℕ → ℕ → ℕ → Type 0
Before a b z y = (a < z) ⊎ ((a ≡ z) × (b < y))

-- what is found is a pair below n that passes, and none before it does, or nothing is found and none does
abbrev pub LeastPair : ℕ → (ℕ → ℕ → Bool) → Option (ℕ × ℕ) → Type 0
LeastPair n p (Some (z, y)) = (z < n) × (y < n) × (p z y ≡ true) × ((a b : ℕ) → b < n → Before a b z y → p a b ≡ false)
LeastPair n p None = (a b : ℕ) → a < n → b < n → p a b ≡ false
