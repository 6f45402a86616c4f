-- The steps of the search for two entries that break the law.
use Rattle.std.proofs.Common.{length, sym, ◌∙◌, arith}
use Rattle.policy.specs.Faults.{breaks}
use Rattle.policy.specs.Searches.{seek_hit, seek_miss, seek_end, pair_hit, pair_miss, pair_end}
use Rattle.policy.proofs.table_search.first_broken.Goals as goal

pub loop-part-preserved : goal.loop-part-preserved
loop-part-preserved c =
    let es = c.args.entries.now in
    let p = breaks c.args.law es in
    (c.loop-part.invariant.0, c.loop-part.invariant.1 ∙ seek_miss (length es) c.loop-part.part (p c.sets.whole) (omega arith) (sym c.if-is_broken.ensures))

pub sets-preserved : goal.sets-preserved
sets-preserved c =
    let es = c.args.entries.now in
    let p = breaks c.args.law es in
    let none = c.loop-part.invariant.1 ∙ seek_end (length es) c.loop-part.part (p c.sets.whole) (omega arith) in
    (c.loop-part.invariant.0, c.sets.invariant.1 ∙ pair_miss (length es) c.sets.whole p (omega arith) none)

pub returns-after-sets : goal.returns-after-sets
returns-after-sets c =
    let es = c.args.entries.now in
    c.sets.invariant.0 ∙ sym (c.sets.invariant.1 ∙ pair_end (length es) c.sets.whole (breaks c.args.law es) (omega arith))

pub returns-then-is_broken : goal.returns-then-is_broken
returns-then-is_broken c =
    let es = c.args.entries.now in
    let p = breaks c.args.law es in
    let hit = c.loop-part.invariant.1 ∙ seek_hit (length es) c.loop-part.part (p c.sets.whole) (omega arith) (sym c.if-is_broken.ensures) in
    sym (c.sets.invariant.1 ∙ pair_hit (length es) c.sets.whole c.loop-part.part p (omega arith) hit)
