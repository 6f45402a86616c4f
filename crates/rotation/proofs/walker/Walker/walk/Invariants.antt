-- The set and the rest of the walk make the whole, and its members put others out.
use Rattle.std.proofs.Common.{◌≡◌, ◌-◌, ◌<◌}
use Rattle.fleet.specs.Sets.{nobody}
use Rattle.fleet.specs.Members.{members}
use Rattle.matching.specs.Farms.{in_situation}
use Rattle.rotation.specs.Moves.{walk}
use Rattle.rotation.specs.Walking.{gathered, Displacing}
use Rattle.rotation.proofs.walker.Walker.walk.Given as goal

abbrev pub invariant-loop-n : goal.invariant-loop-n
invariant-loop-n g l =
    let here = l.initial.self.situation.now in
    let C = g.P.Policy.chosen in
    record {
      stays : l.self.situation ≡ l.initial.self.situation;
      found : gathered nobody (in_situation C here walk l.worker 64 l.worker) ≡ gathered (members l.on) (in_situation C here walk l.worker (64 - l._n) l.at);
      displacing : in_situation C here Displacing (members l.self.seen) (members l.on);
      known : l.at < 64;
    }
