-- Who stays when others come is chosen out of the set alone too.
use Rattle.std.proofs.Common.{◌∙◌}
use Rattle.fleet.specs.Members.{members}
use Rattle.policy.proofs.Together.{both_workers, stay_is, stay_alone}
use Rattle.policy.proofs.laws.few_stay.Goals as goal

pub returns : goal.returns
returns g c =
    let lawful = (g.met.P.Policy.lawful c.args.policy.now).laws c.args.tenant in
    let A = members c.args.few in
    let B = members c.args.others in
    let small = both_workers c.args.few c.args.others in
    let same = c.requires ∙ stay_is lawful A B small in
    record { same = same; alone = stay_alone lawful A B small _ same }
