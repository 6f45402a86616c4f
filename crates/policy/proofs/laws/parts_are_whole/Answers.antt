-- Choosing in parts is choosing at once.
use Rattle.fleet.specs.Members.{members}
use Rattle.policy.specs.Choose.{path_independent}
use Rattle.policy.proofs.Together.{both_workers}
use Rattle.policy.proofs.laws.parts_are_whole.Goals as goal

pub returns : goal.returns
returns g c =
    let lawful = (g.met.P.Policy.lawful c.args.policy.now).laws c.args.tenant in
    let A = c.args.first in
    let B = c.args.second in
    record { same = path_independent lawful (members A) (members B) (both_workers A B); law = λ C law. path_independent law }
