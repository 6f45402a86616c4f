-- A step is a worker's, and to a tenant, whose workers are those that are placed with it.
use Rattle.std.proofs.Common.{sym, ap, ◌∙◌}
use Rattle.fleet.specs.Sets.{Set, minus}
use Rattle.fleet.specs.Market.{staff}
use Rattle.fleet.specs.Members.{members}
use Rattle.fleet.proofs.Sound.{lists_sound}
use Rattle.matching.specs.Farms.{placed}
use Rattle.matching.proofs.Displaced.{step_range}
use Rattle.matching.proofs.farm.Situation.put_out.Goals as goal

pub returns : goal.returns
returns g c =
    let here = c.args.self.now in
    let C = g.P.Policy.chosen here.farm.now.policy.now in
    let t = c.args.tenant in
    let range = step_range (lists_sound here.farm.now.lists.now) C (placed here) c.args.worker t (sym c.requires.step) in
    c.minus.ensures ∙ ap (λ (A : Set). minus A (members c.args.kept)) (c.staff.ensures range.1) ∙ ap (minus (staff (placed here) t)) c.requires.kept
