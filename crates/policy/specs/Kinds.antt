-- Two kinds of choice down a list of workers: the first so many, and so many with caps for classes of workers.
use Rattle.std.specs.Prelude.{ℕ, ◌+◌, Bool, cond, ◌&&◌, List, [], ◌∷◌, length, take, Some, None, filter, Option, ◌==◌, nat_lt, slice_index}
use Rattle.std.specs.List.{slice_get}
use Rattle.fleet.specs.Sets.{Set, among, nobody}
use Rattle.policy.specs.Choice.{Choice, Policy}

-- what the tenant chooses, if there is one, and else nobody
abbrev pub choice_of : {T : Type 0} → (T → Choice) → Option T → Choice
choice_of choice (Some tenant) Z = choice tenant Z
choice_of choice None Z = nobody

-- the policy of a list of tenants, each with its choice
abbrev pub by_number : {T : Type 0} → (T → Choice) → List T → Policy
by_number choice tenants t = choice_of choice (slice_get tenants t)

-- the first cap workers of a list that are in the set
abbrev pub ranked : ℕ → List ℕ → Choice
ranked cap l Z = let chosen = take cap (filter Z l) in among chosen

-- a tenant that chooses so: its cap and its list
pub record RankedRule : Type 0 where
  pub cap : ℕ
  pub list : List ℕ

-- the policy of such tenants
abbrev pub ranked_policy : List RankedRule → Policy
ranked_policy = by_number (λ r. ranked r.cap r.list)

-- one worker's turn on a walk: it joins those who are taken if it is in the set and there is room for it
abbrev pub turn : (List ℕ → ℕ → Bool) → Set → List ℕ → ℕ → List ℕ
turn room Z so_far w = cond (Z w && room so_far w) (w ∷ so_far) so_far

-- who is taken once the whole list was walked, where some were taken before
abbrev pub walk : (List ℕ → ℕ → Bool) → Set → List ℕ → List ℕ → List ℕ
walk room Z so_far [] = so_far
walk room Z so_far (w ∷ ws) = walk room Z (turn room Z so_far w) ws

-- how many of the workers have the class c
abbrev pub of_class : (ℕ → ℕ) → ℕ → List ℕ → ℕ
of_class class c [] = 0
of_class class c (w ∷ ws) = cond (class w == c) 1 0 + of_class class c ws

-- fewer are taken than the overall cap, and fewer of the worker's class than the cap of that class
abbrev pub has_seat : (ℕ → ℕ) → ℕ → (ℕ → ℕ) → List ℕ → ℕ → Bool
has_seat class overall cap_of so_far w = nat_lt (length so_far) overall && nat_lt (of_class class (class w) so_far) (cap_of (class w))

-- who is seated on a walk down the list, by the workers' classes, the overall cap and the caps of the classes
abbrev pub seated : List ℕ → ℕ → List ℕ → List ℕ → Choice
seated classes overall caps l Z =
    let chosen = walk (has_seat (λ w. slice_index classes w) overall (λ c. slice_index caps c)) Z [] l in among chosen

-- a tenant that chooses so: its overall cap, the caps of the classes and its list
pub record SeatedRule : Type 0 where
  pub overall : ℕ
  pub caps : List ℕ
  pub list : List ℕ

-- the policy of such tenants, by the workers' classes
abbrev pub seated_policy : List ℕ → List SeatedRule → Policy
seated_policy classes = by_number (λ r. seated classes r.overall r.caps r.list)
