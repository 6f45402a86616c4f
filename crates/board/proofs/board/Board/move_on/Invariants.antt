-- So many turns were made.
use Rattle.std.proofs.Common.{◌≡◌, length}
use Rattle.fleet.specs.Lists.{market}
use Rattle.runs.specs.Onward.{Moving}
use Rattle.board.specs.Shown.{state, Keeps}
use Rattle.board.proofs.board.Board.move_on.Given as goal

abbrev pub invariant-loop-turns : goal.invariant-loop-turns
invariant-loop-turns g l =
    let b = l.initial.self in
    Moving (market b.table.lists) (g.P.Policy.chosen b.policy) b.table.settled.places (state b.table) l.initial.log l.turns l.events (state l.self.table) l.log ×
    Keeps b.table l.self.table × (l.self.policy ≡ b.policy) × (length l.log ≡ 1440)
