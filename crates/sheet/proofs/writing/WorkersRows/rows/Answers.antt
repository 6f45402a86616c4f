-- There is a row for each worker.
use Rattle.std.proofs.Common.{sym, ◌∙◌}
use Rattle.fleet.specs.Lists.{market}
use Rattle.sheet.proofs.WorkerRows.{contents_count}
use Rattle.sheet.proofs.writing.WorkersRows.rows.Goals as goal

pub returns : goal.returns
returns c =
    let w = c.args.self.now in
    let m = market w.lists.now in
    c.workers.ensures.value ∙ sym (contents_count m w.classes.now m.workers)
