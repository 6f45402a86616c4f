-- No worker that the loop has passed is on a rotation.
use Rattle.std.proofs.Common.{◌≡◌, None}
use Rattle.fleet.specs.Sets.{lowest}
use Rattle.matching.specs.Farms.{in_situation}
use Rattle.rotation.specs.Moves.{on_rotation}
use Rattle.rotation.proofs.rotating.lowest_below.Given as goal

abbrev pub invariant-loop-worker : goal.invariant-loop-worker
invariant-loop-worker g l =
    let here = l.initial.walker.situation in
    record {
      stays : l.walker.situation ≡ here;
      none : lowest l.worker (in_situation g.P.Policy.chosen here.now on_rotation) ≡ None;
    }
