-- The workers' lists of tenants, and placements.
use Rattle.std.specs.Prelude.{◌≡◌, ℕ, suc, ◌<◌, ◌≤◌, Bool, true, cond, not, ◌&&◌, List, [], ◌∷◌, length, ◌==◌}
use Rattle.fleet.specs.Sets.{Set, among}

-- the place of tenant t in a list, 0 for the best, or the list's length where it has no t
abbrev pub rank : List ℕ → ℕ → ℕ
rank [] t = 0
rank (x ∷ xs) t = cond (x == t) 0 (suc (rank xs t))

-- the list has t
abbrev pub On : List ℕ → ℕ → Type 0
On l t = rank l t < length l

-- the list has no number twice
abbrev pub different : List ℕ → Bool
different [] = true
different (x ∷ xs) = not (among xs x) && different xs

-- how many workers and tenants there are, and each worker's list of tenants, best first
pub record Market : Type 0 where
  pub workers : ℕ
  pub tenants : ℕ
  pub list : ℕ → List ℕ

-- the numbers are in range, only workers have lists, and no list has a tenant twice
pub record Sound (m : Market) : Type 0 where
  pub some_workers : 1 ≤ m.workers
  pub some_tenants : 1 ≤ m.tenants
  pub few_workers : m.workers ≤ 64
  pub few_tenants : m.tenants ≤ 16
  pub short_lists : (w : ℕ) → length (m.list w) ≤ 16
  pub listed_below : (w t : ℕ) → On (m.list w) t → t < m.tenants
  pub past_empty : (w : ℕ) → m.workers ≤ w → m.list w ≡ []
  pub no_repeats : (w : ℕ) → different (m.list w) ≡ true

-- the tenant of each worker, 255 for none
abbrev pub Placement : Type 0
Placement = ℕ → ℕ

-- the workers that x places with tenant t
abbrev pub staff : Placement → ℕ → Set
staff x t w = x w == t

-- how far down its own list x has worker w, the list's length if it is unplaced
abbrev pub depth : Market → Placement → ℕ → ℕ
depth m x w = rank (m.list w) (x w)
