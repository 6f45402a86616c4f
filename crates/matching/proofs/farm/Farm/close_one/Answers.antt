-- One pair more is closed, from Standing.
use Rattle.std.proofs.Common.{◌+◌, get_or, ap, ◌∙◌, arith}
use Rattle.fleet.specs.Lists.{market}
use Rattle.matching.specs.Entries.{place}
use Rattle.matching.proofs.Standing.{closed_one}
use Rattle.matching.proofs.farm.Farm.close_one.Goals as goal

pub returns-clause-standing : goal.returns-clause-standing
returns-clause-standing g c =
    let l = c.args.closed.now in
    let w = c.args.worker in
    ap place c.put.ensures ∙
    closed_one (market c.args.self.now.lists.now) l c.args.staffing.now.placement.places w (get_or l w 0 + 1) c.stands.result (omega arith) (omega arith)
    c.requires.standing c.stands.ensures
