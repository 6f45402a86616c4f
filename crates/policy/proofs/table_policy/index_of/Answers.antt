-- One place further up is one bit further up.
use Rattle.std.proofs.Common.{◌≤◌, length, take, arith, length-take}
use Rattle.fleet.specs.Members.{members}
use Rattle.policy.proofs.Naming.{index_small, bit_small, bit_alone, index_more}
use Rattle.policy.proofs.table_policy.index_of.Goals as goal
use Rattle.policy.proofs.table_policy.index_of.Goals.{then-contains, else-contains}

pub overflow_add-index : goal.overflow_add-index
overflow_add-index c =
    let ws = c.args.workers.now in
    let i = c.loop-place.place in
    let few : length (take i ws) ≤ 8 = omega (arith, length-take i ws, c.requires) in
    let Z = members c.args.of in
    let l = c.loop-place-test.true in
    omega (arith, c.loop-place.invariant, index_small (take i ws) Z few, bit_alone ws Z i c.requires l, bit_small ws Z i c.requires l)

pub loop-place-preserved : goal.loop-place-preserved
loop-place-preserved c =
    let ws = c.args.workers.now in
    let Z = members c.args.of in
    let i = c.loop-place.place in
    let l = c.loop-place-test.true in
    let more = index_more ws Z i c.requires l in
    let alone = bit_alone ws Z i c.requires l in
    let before = c.loop-place.invariant in
    let at = c.contains.ensures in
    elim c.if-contains.branch [
      | then-contains w ↦ grind (arith, w.index-is, w.if-contains.true)
      | else-contains w ↦ grind (arith, w.index-is, w.if-contains.false)
    ]
