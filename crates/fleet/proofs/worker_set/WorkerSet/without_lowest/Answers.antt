-- The lowest member is one, so that fewer are left without it.
use Rattle.std.proofs.Common.{sym, ap, arith}
use Rattle.fleet.specs.Sets.{size}
use Rattle.fleet.specs.Members.{members}
use Rattle.fleet.proofs.First.{lowest_some}
use Rattle.fleet.proofs.Sizes.{size_remove}
use Rattle.fleet.proofs.worker_set.WorkerSet.without_lowest.Goals as goal

pub returns : goal.returns
returns c =
    let A = members c.args.self in
    let w = c.args.worker in
    let found = lowest_some 64 A w (sym c.requires) in
    record { others = c.without.ensures; fewer = omega (arith, size_remove A w found.1 found.0, ap size c.without.ensures) }
