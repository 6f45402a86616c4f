-- Choosing twice is choosing once.
use Rattle.fleet.specs.Members.{members}
use Rattle.fleet.proofs.Same.{members_workers}
use Rattle.policy.specs.Choose.{idempotent}
use Rattle.policy.proofs.laws.again_is_once.Goals as goal

pub returns : goal.returns
returns g c =
    let lawful = (g.met.P.Policy.lawful c.args.policy.now).laws c.args.tenant in
    record { same = idempotent lawful (members c.args.of) (members_workers c.args.of); law = λ C law. idempotent law }
