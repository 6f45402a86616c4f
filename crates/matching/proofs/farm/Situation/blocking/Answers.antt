-- A list without repeats has the tenants that a worker likes better before its own.
use Rattle.std.proofs.Common.{length, sym, ap, ◌∙◌, ap₂, arith, length-take}
use Rattle.std.specs.List.{find}
use Rattle.fleet.specs.Rankings.{listed}
use Rattle.fleet.specs.Lists.{market}
use Rattle.fleet.specs.Market.{rank}
use Rattle.fleet.proofs.Ranks.{rank_le}
use Rattle.fleet.proofs.Sound.{lists_sound}
use Rattle.matching.specs.Farms.{placed}
use Rattle.matching.specs.Stable.{wants}
use Rattle.matching.proofs.Scan.{block_scan}
use Rattle.matching.proofs.farm.Situation.blocking.Goals as goal

pub up_to-requires : goal.up_to-requires
up_to-requires g c =
    omega (arith, c.rank-own.ensures, rank_le (listed c.list-list.result) c.tenant.result, ap length c.as_slice.ensures, length-take c.rank-own.result c.as_slice.result.now)

pub returns : goal.returns
returns g c =
    let here = c.args.self.now in
    let C = g.P.Policy.chosen here.farm.now.policy.now in
    let w = c.args.worker in
    c.first_wanting.ensures ∙ ap (find (wants C (placed here) w)) c.up_to.ensures ∙
    sym (block_scan (market here.farm.now.lists.now) C (placed here) w ((lists_sound here.farm.now.lists.now).no_repeats w) c.as_slice.result.now c.rank-own.result
    (c.as_slice.ensures ∙ c.list-list.ensures) (c.rank-own.ensures ∙ ap₂ rank (sym c.as_slice.ensures) c.tenant.ensures))
