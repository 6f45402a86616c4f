-- The members of a set that is held in one word.
use Rattle.std.specs.Prelude.{◌≡◌, ℕ, ◌/◌, ◌%◌, ◌^◌, Bool, Some, None, Option, ◌==◌}
use Rattle.fleet.specs.Sets.{Set, singleton, minus, lowest}
use Rattle.fleet.specs.declared.worker_set.WorkerSet.{WorkerSet}
use Rattle.fleet.specs.declared.sets.Workers.{Workers}

-- bit w of n; shut, so that no proof divides
unfoldable pub bit : ℕ → ℕ → Bool
bit n w = n / 2 ^ w % 2 == 1

-- the workers of a set: worker w is bit w
abbrev pub members : WorkerSet → Set
members s = bit s.bits

-- the workers that an iterator has still to give
abbrev pub coming : Workers → Set
coming i = members i.rest

-- A without the worker that was found, if one was
abbrev pub but : Set → Option ℕ → Set
but A None = A
but A (Some w) = minus A (singleton w)

-- of the members A that are to come, the lowest is given, and B are to come after it
pub record Gives (A : Set) (given : Option ℕ) (B : Set) : Type 0 where
  pub found : given ≡ lowest 64 A
  pub others : B ≡ but A given
