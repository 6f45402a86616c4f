-- A list without repeats has the tenants that a worker likes less after its own.
use Rattle.std.proofs.Common.{sym, ap, ◌∙◌, ap₂, arith, length-take}
use Rattle.std.specs.List.{find}
use Rattle.fleet.specs.Rankings.{listed}
use Rattle.fleet.specs.Lists.{market}
use Rattle.fleet.specs.Market.{rank}
use Rattle.fleet.proofs.Ranks.{rank_le}
use Rattle.fleet.proofs.Sound.{lists_sound}
use Rattle.matching.specs.Farms.{placed}
use Rattle.matching.specs.Stable.{wants}
use Rattle.matching.proofs.Scan.{step_scan}
use Rattle.matching.proofs.farm.Situation.step_keeping.Goals as goal

pub beyond-requires : goal.beyond-requires
beyond-requires g c =
    let r = c.list-list.result in
    omega (arith, c.rank-own.ensures, rank_le (listed r) c.tenant.result, length-take r.len r.items, r.short)

pub returns-clause-tenant : goal.returns-clause-tenant
returns-clause-tenant g c =
    let here = c.args.self.now in
    let C = g.P.Policy.chosen here.farm.now.policy.now in
    let w = c.args.worker in
    let l = c.as_slice.result.now in
    let own = c.rank-own.result in
    c.first_keeping.ensures.tenant ∙ ap (find (wants C (placed here) w)) c.beyond.ensures ∙
    sym (step_scan (market here.farm.now.lists.now) C (placed here) w ((lists_sound here.farm.now.lists.now).no_repeats w) l own (c.as_slice.ensures ∙ c.list-list.ensures)
    (c.rank-own.ensures ∙ ap₂ rank (sym c.as_slice.ensures) c.tenant.ensures))
