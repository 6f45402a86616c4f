-- The workers so far that differ.
use Rattle.std.proofs.Common.{◌≡◌, ℕ, ◌&&◌, ltb}
use Rattle.fleet.specs.Members.{members}
use Rattle.runs.specs.Calls.{displaced}
use Rattle.board.proofs.table.Table.displaced.Given as goal

abbrev pub invariant-loop-worker : goal.invariant-loop-worker
invariant-loop-worker l = (w : ℕ) → members l.workers w ≡ (ltb w l.worker && displaced l.self.settled.places l.self.current.places w)
