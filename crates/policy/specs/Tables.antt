-- A choice that is written down: for each set of a few workers the chosen ones, and the tests that such a table passes.
use Rattle.std.specs.Prelude.{◌≡◌, ℕ, ◌+◌, ◌*◌, ◌^◌, ◌<◌, Bool, false, cond, not, ◌&&◌, List, [], ◌∷◌, ◌==◌, bit_and, count_ones, nat_lt, slice_index}
use Rattle.fleet.specs.Sets.{Set, among}
use Rattle.fleet.specs.Market.{rank}
use Rattle.fleet.specs.Members.{bit}
use Rattle.policy.specs.Choice.{Choice, Policy}
use Rattle.policy.specs.Kinds.{by_number}

-- the index of a set of workers: bit i says that the i-th of the table's workers is in the set
abbrev pub index_of : List ℕ → Set → ℕ
index_of [] Z = 0
index_of (w ∷ ws) Z = cond (Z w) 1 0 + 2 * index_of ws Z

-- the workers that an entry names: bit i says that the i-th of the table's workers is chosen
abbrev pub named_by : List ℕ → ℕ → Set
named_by ws entry v = among ws v && bit entry (rank ws v)

-- the choice of a table: what the entry at the set's index names
abbrev pub table_choice : List ℕ → List ℕ → Choice
table_choice ws entries Z = named_by ws (slice_index entries (index_of ws Z))

-- a tenant that chooses so: its workers and the entries
pub record TableRule : Type 0 where
  pub workers : List ℕ
  pub entries : List ℕ

-- the policy of such tenants
abbrev pub table_policy : List TableRule → Policy
table_policy = by_number (λ r. table_choice r.workers r.entries)

-- the workers of a table over n workers and its entries, one for each of their sets, counted together
abbrev pub table_length : ℕ → ℕ
table_length n = n + 2 ^ n

-- every bit of a is set in b too
abbrev pub bits_within : ℕ → ℕ → Bool
bits_within a b = bit_and a b == a

-- the entry at z chooses a worker who is not in z
abbrev pub outside : List ℕ → ℕ → Bool
outside entries z = not (bits_within (slice_index entries z) z)

-- y lies within z, and somebody chosen out of z who is in y is not chosen out of y
abbrev pub breaks_substitutability : List ℕ → ℕ → ℕ → Bool
breaks_substitutability entries z y = bits_within y z && not (bits_within (bit_and (slice_index entries z) y) (slice_index entries y))

-- y lies within z, and more are chosen out of y than out of z
abbrev pub breaks_monotonicity : List ℕ → ℕ → ℕ → Bool
breaks_monotonicity entries z y = bits_within y z && nat_lt (count_ones (slice_index entries z)) (count_ones (slice_index entries y))

-- y lies within z and has all who are chosen out of z, and others are chosen out of y
abbrev pub breaks_consistency : List ℕ → ℕ → ℕ → Bool
breaks_consistency entries z y = bits_within y z && (bits_within (slice_index entries z) y && not (slice_index entries y == slice_index entries z))

-- the entries below n choose inside, and no two of them break substitutability or monotonicity
pub record LawfulEntries (n : ℕ) (entries : List ℕ) : Type 0 where
  pub inside : (z : ℕ) → z < n → outside entries z ≡ false
  pub substitutable : (z y : ℕ) → z < n → y < n → breaks_substitutability entries z y ≡ false
  pub monotone : (z y : ℕ) → z < n → y < n → breaks_monotonicity entries z y ≡ false
