-- What holds of every lawful choice, how many the kinds of policy choose, and what a search finds.
use Rattle.std.specs.Prelude.{◌≡◌, ℕ, ◌<◌, min, Bool, true, ◌&&◌, List, length, filter, slice_index}
use Rattle.fleet.specs.Sets.{Set, Workers, union, sum_below, size}
use Rattle.fleet.specs.Market.{different}
use Rattle.policy.specs.Choice.{Choice, Inside, Substitutable, Monotone, Consistent, Lawful}
use Rattle.policy.specs.Kinds.{ranked, seated, of_class}
use Rattle.policy.specs.Search.{seek, seek_pair, Least, LeastPair}

-- the members of A that are in B too
abbrev pub both : Set → Set → Set
both A B w = A w && B w

-- choosing out of the chosen changes nothing
abbrev pub Idempotence : Type 0
Idempotence = (C : Choice) → Lawful C → (Z : Set) → Workers Z → C (C Z) ≡ C Z

-- who is not chosen out of a part may leave before the whole is put to the tenant
abbrev pub PathIndependence : Type 0
PathIndependence = (C : Choice) → Lawful C → (A B : Set) → Workers (union A B) → C (union (C A) B) ≡ C (union A B)

-- the fourth law follows from the other three
abbrev pub Consistency : Type 0
Consistency = (C : Choice) → Inside C → Substitutable C → Monotone C → Consistent C

-- a Ranked tenant chooses as many as its list has in the set, up to its cap
abbrev pub RankedCount : Type 0
RankedCount = (cap : ℕ) (l : List ℕ) → different l ≡ true → (Z : Set) → Workers Z → size (ranked cap l Z) ≡ min cap (length (filter Z l))

-- a Seated tenant chooses as many as its list has in the set, of each class up to its cap, and of all classes together up to the overall cap
abbrev pub SeatedCount : Type 0
SeatedCount = (classes : List ℕ) (overall : ℕ) (caps l : List ℕ) → ((w : ℕ) → slice_index classes w < 8) → different l ≡ true → (Z : Set) → Workers Z →
    size (seated classes overall caps l Z) ≡ min overall (sum_below 8 (λ c. min (slice_index caps c) (of_class (λ w. slice_index classes w) c (filter Z l))))

-- a search finds the least number, and the least pair, that passes its test, or nothing where none does
pub record SearchLeast : Type 0 where
  pub number : (n : ℕ) (p : ℕ → Bool) → Least n p (seek n 0 p)
  pub pair : (n : ℕ) (p : ℕ → ℕ → Bool) → LeastPair n p (seek_pair n 0 n p)
