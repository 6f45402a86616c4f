-- What is known of successors, and what a walk along them gathers.
use Rattle.std.specs.Prelude.{◌≡◌, ℕ, true, List, is_some, Some, None, Option, slice_index, slice_index_or}
use Rattle.std.specs.Option.{option_map}
use Rattle.fleet.specs.Sets.{Set, among, union}
use Rattle.fleet.specs.Market.{Market, Placement}
use Rattle.fleet.specs.Members.{members}
use Rattle.fleet.specs.declared.worker_set.WorkerSet.{WorkerSet}
use Rattle.policy.specs.Choice.{Policy}
use Rattle.matching.specs.Stepping.{displacement}

-- what is noted of a worker, by tenants and successors: its successor, if it has one, with the tenant that it steps to
abbrev pub noted : List ℕ → List (Option ℕ) → ℕ → Option (ℕ × ℕ)
noted to next v = option_map (λ u. (slice_index to v, u)) (slice_index_or next v None)

-- the members of the set that was found, if one was
abbrev pub found_set : Option WorkerSet → Option Set
found_set None = None
found_set (Some s) = Some (members s)

-- the workers of A and those of the walk, if there is a walk
abbrev pub gathered : Set → Option (List ℕ) → Option Set
gathered A None = None
gathered A (Some us) = Some (union A (among us))

-- the members of A were seen, and each puts a worker out
abbrev pub Displacing : Market → Policy → Placement → Set → Set → Type 0
Displacing m C x seen A = (v : ℕ) → A v ≡ true → (seen v ≡ true) × (is_some (displacement m C x v) ≡ true)

-- so did the workers that were found
abbrev pub FoundDisplacing : Market → Policy → Placement → Set → Option WorkerSet → Type 0
FoundDisplacing m C x seen None = Unit {0}
FoundDisplacing m C x seen (Some s) = Displacing m C x seen (members s)
