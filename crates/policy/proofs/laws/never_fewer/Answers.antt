-- No fewer are chosen when others come.
use Rattle.fleet.specs.Members.{members}
use Rattle.policy.specs.Choose.{consistent_from}
use Rattle.policy.proofs.Together.{both_workers, never_fewer}
use Rattle.policy.proofs.laws.never_fewer.Goals as goal

pub returns : goal.returns
returns g c =
    let lawful = (g.met.P.Policy.lawful c.args.policy.now).laws c.args.tenant in
    let A = c.args.few in
    let B = c.args.others in
    record { more = never_fewer lawful (members A) (members B) (both_workers A B); law = consistent_from }
