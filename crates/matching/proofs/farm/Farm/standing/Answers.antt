-- All workers stand, and past them nobody does, from Standing.
use Rattle.std.proofs.Common.{arith}
use Rattle.matching.proofs.Standing.{stands_all}
use Rattle.matching.proofs.farm.Farm.standing.Goals as goal

pub returns : goal.returns
returns g c =
    let all = c.loop-w.invariant in
    let workers = c.workers-workers in
    stands_all workers.ensures.sound c.args.closed.now c.loop-w.place-items workers.result 64 workers.ensures.value all.0
    (λ v h. all.1 v (omega (arith, c.loop-w-test.false, all.0)))
