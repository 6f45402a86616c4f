-- What stands at a place of the list, and 255 past its end.
use Rattle.std.proofs.Common.{ℕ, List, get_or, Option, unwrap_or, ap, ◌∙◌}
use Rattle.fleet.specs.Rankings.{listed}
use Rattle.matching.proofs.Tabulate.{value_nth}
use Rattle.matching.proofs.farm.Farm.stands.Goals as goal

pub returns : goal.returns
returns g c =
    let k = get_or c.args.closed.now c.args.worker 0 in
    c.unwrap_or.ensures ∙ ap (λ (o : Option ℕ). unwrap_or o 255) c.get.ensures ∙ value_nth (listed c.list.result) k 255 ∙
    ap (λ (l : List ℕ). get_or l k 255) c.list.ensures
