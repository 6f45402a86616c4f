-- The moves back so far are on the list.
use Rattle.std.proofs.Common.{◌≡◌, take}
use Rattle.rotation.specs.Moves.{reversed}
use Rattle.rotation.specs.Listing.{listing}
use Rattle.rotation.proofs.move_list.MoveList.reversed.Given as goal

abbrev pub invariant-loop-step : goal.invariant-loop-step
invariant-loop-step l = record { listed : listing l.back ≡ reversed (take l.step-index l.step-items); long : l.back.len ≡ l.step-index }
