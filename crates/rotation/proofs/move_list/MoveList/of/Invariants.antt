-- The moves so far are on the list.
use Rattle.std.proofs.Common.{◌≡◌, take}
use Rattle.rotation.specs.Listing.{listing}
use Rattle.rotation.proofs.move_list.MoveList.of.Given as goal

abbrev pub invariant-loop-step : goal.invariant-loop-step
invariant-loop-step l = record { listed : listing l.list ≡ take l.step-index l.step-items; long : l.list.len ≡ l.step-index }
