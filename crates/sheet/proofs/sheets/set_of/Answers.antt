-- All workers of a ranking are below 64.
use Rattle.std.proofs.Common.{ap, ◌∙◌}
use Rattle.fleet.specs.Rankings.{listed}
use Rattle.fleet.specs.OfNumbers.{workers_among}
use Rattle.fleet.proofs.OfNumbers.{all_workers}
use Rattle.sheet.proofs.sheets.set_of.Goals as goal

pub returns : goal.returns
returns c =
    let r = c.args.ranking.now in
    c.from.ensures ∙ ap workers_among c.as_slice.ensures ∙ all_workers (listed r) r.within
