-- The workers that the loop has passed stand where they should.
use Rattle.std.proofs.Common.{◌≡◌, ℕ, ◌<◌, length}
use Rattle.fleet.specs.Lists.{market}
use Rattle.matching.specs.Entries.{place}
use Rattle.matching.specs.Settling.{stands}
use Rattle.matching.proofs.farm.Farm.standing.Given as goal

abbrev pub invariant-loop-w : goal.invariant-loop-w
invariant-loop-w g l = (length l.place-items ≡ (market l.self.lists.now).workers) × ((v : ℕ) → v < l.w → place l.place-items v ≡ stands (market l.self.lists.now) l.closed v)
