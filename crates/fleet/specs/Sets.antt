-- Sets of workers, as tests on worker numbers, and how many members they have.
use Rattle.std.specs.Prelude.{◌≡◌, ℕ, zero, suc, ◌+◌, ◌<◌, Bool, true, false, cond, not, ◌&&◌, ◌||◌, List, Some, None, Option, ◌==◌, nat_lt}
use Rattle.std.specs.List.{list_any, list_all}

-- a set of workers: `true` for each member's number
abbrev pub Set : Type 0
Set = ℕ → Bool

-- the set without members
abbrev pub nobody : Set
nobody w = false

-- the one worker v
abbrev pub singleton : ℕ → Set
singleton v w = w == v

-- the workers of a list, as a set
abbrev pub among : List ℕ → Set
among us v = list_any (λ u. u == v) us

-- the numbers of a list are all below n
abbrev pub all_under : ℕ → List ℕ → Bool
all_under n us = list_all (λ u. nat_lt u n) us

-- the members of A and those of B
abbrev pub union : Set → Set → Set
union A B w = A w || B w

-- the members of A, and the worker v
abbrev pub insert : Set → ℕ → Set
insert A v w = A w || w == v

-- the members of A, and v if it is a worker's number
abbrev pub with_worker : Set → ℕ → Set
with_worker A v w = A w || (w == v && nat_lt v 64)

-- the members of A that are not in B
abbrev pub minus : Set → Set → Set
minus A B w = A w && not (B w)

-- every member of A is in B
abbrev pub Within : Set → Set → Type 0
Within A B = (w : ℕ) → A w ≡ true → B w ≡ true

-- the members are worker numbers, 0 to 63
abbrev pub Workers : Set → Type 0
Workers A = (w : ℕ) → A w ≡ true → w < 64

-- the lowest member below n
abbrev pub lowest : ℕ → Set → Option ℕ
lowest zero A = None
lowest (suc n) A = elim (lowest n A) [ Some v ↦ Some v | None ↦ cond (A n) (Some n) None ]

-- some number below n passes the test
abbrev pub any_below : ℕ → (ℕ → Bool) → Bool
any_below zero p = false
any_below (suc n) p = any_below n p || p n

-- f 0 + f 1 + .. + f (n - 1)
abbrev pub sum_below : ℕ → (ℕ → ℕ) → ℕ
sum_below zero f = 0
sum_below (suc n) f = sum_below n f + f n

-- how many members are below n
abbrev pub count_below : ℕ → Set → ℕ
count_below zero A = 0
count_below (suc n) A = count_below n A + cond (A n) 1 0

-- how many members are worker numbers; shut, so that no proof counts to 64
unfoldable pub size : Set → ℕ
size A = count_below 64 A
