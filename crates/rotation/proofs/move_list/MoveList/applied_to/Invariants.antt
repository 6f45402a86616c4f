-- The moves that are left, after those that are made, come to all of them.
use Rattle.std.proofs.Common.{◌≡◌, length}
use Rattle.rotation.specs.Moves.{moved}
use Rattle.rotation.specs.Listing.{listing}
use Rattle.rotation.proofs.move_list.MoveList.applied_to.Given as goal

abbrev pub invariant-loop-step : goal.invariant-loop-step
invariant-loop-step l =
    (goal.iterator-loop-step).can_next l.step-iterator × (goal.iterator-loop-step).is_finite l.step-iterator ×
    record { left : moved l.step-iterator.iter.rest.now l.places ≡ moved (listing l.self) l.initial.places; long : length l.places ≡ 64 }
