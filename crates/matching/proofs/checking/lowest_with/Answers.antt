-- One number more, from Searches.
use Rattle.std.proofs.Common.{sym}
use Rattle.matching.proofs.Searches.{found_first}
use Rattle.matching.proofs.checking.lowest_with.Goals as goal

pub returns-in-Some : goal.returns-in-Some
returns-in-Some g c find says =
    let n = c.loop-n.n in
    sym (found_first find n c.in-Some.a c.args.count (c.loop-n.invariant find says) (sym (says n _ c.loop-n-test.true c.in-Some.ensures)) c.loop-n-test.true)
