-- The list has the moves of the workers that the loop has passed.
use Rattle.std.proofs.Common.{◌≡◌, ◌≤◌}
use Rattle.fleet.specs.Members.{members}
use Rattle.matching.specs.Entries.{place}
use Rattle.rotation.specs.Moves.{carried}
use Rattle.rotation.specs.Listing.{listing}
use Rattle.rotation.proofs.move_list.MoveList.between.Given as goal

abbrev pub invariant-loop-worker : goal.invariant-loop-worker
invariant-loop-worker l =
    (listing l.moves ≡ carried (place l.from.places) (place l.to.places) (members l.workers) l.worker) × (l.moves.len ≤ l.worker)
