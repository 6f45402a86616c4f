-- The indices found are below the number of entries, and so fit a byte.
use Rattle.std.proofs.Common.{◌<◌, length, arith}
use Rattle.policy.specs.Faults.{breaks}
use Rattle.policy.specs.Searches.{pair_below}
use Rattle.policy.proofs.table_search.law_fault.Goals as goal
use Rattle.policy.proofs.table_search.law_fault.Goals.{In_ok-whole}

below : (c : In_ok-whole) → (c.in_ok-whole.whole < length c.args.entries.now) × (c.in_ok-whole.part < length c.args.entries.now)
below c = let es = c.args.entries.now in pair_below (length es) c.in_ok-whole.whole c.in_ok-whole.part (breaks c.args.law es) c.in_ok-whole.ensures

pub overflow_cast-result : goal.overflow_cast-result
overflow_cast-result c = omega (arith, below c)

pub overflow_cast-result-2 : goal.overflow_cast-result-2
overflow_cast-result-2 c = omega (arith, below c)
