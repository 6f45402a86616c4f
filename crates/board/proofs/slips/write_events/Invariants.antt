-- The events so far stand on the slip, in front of what it held past them.
use Rattle.std.proofs.Common.{◌≡◌, ◌++◌, take, drop}
use Rattle.runs.specs.Calls.{events}
use Rattle.fleet.specs.Kinds.{kind_number}
use Rattle.board.proofs.slips.write_events.Given as goal

abbrev pub invariant-loop-i : goal.invariant-loop-i
invariant-loop-i l = l.slip ≡ events l.number (kind_number l.kind) (take l.i l.steps) ++ drop l.i l.initial.slip
