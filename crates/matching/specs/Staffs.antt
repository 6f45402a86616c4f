-- The workers of a tenant, as sets in code.
use Rattle.std.specs.Prelude.{ℕ, ◌&&◌, nat_lt}
use Rattle.std.proofs.Common.{lit<}
use Rattle.fleet.specs.Sets.{Set}
use Rattle.fleet.specs.Market.{Placement, staff}
use Rattle.fleet.specs.declared.worker_set.WorkerSet.{WorkerSet}

-- the set without members
abbrev pub no_workers : WorkerSet
no_workers = record { bits = 0; fits = lit< tt }

-- the workers below n that x places with tenant t
abbrev pub staff_below : ℕ → Placement → ℕ → Set
staff_below n x t w = nat_lt w n && staff x t w
