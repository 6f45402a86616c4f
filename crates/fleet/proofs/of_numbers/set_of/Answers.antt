-- The next number joins the members, and nobody is left at the end.
use Rattle.std.proofs.Common.{arith, ◌∙◌}
use Rattle.fleet.specs.Members.{members}
use Rattle.fleet.specs.OfNumbers.{workers_among}
use Rattle.fleet.proofs.OfNumbers.{one_joins, none_left}
use Rattle.fleet.proofs.of_numbers.set_of.Goals as goal

pub loop-number-preserved : goal.loop-number-preserved
loop-number-preserved c = rw c.with-set.ensures (one_joins (members c.loop-number.set) c.args.numbers.now c.loop-number.number-index (omega arith) ∙ c.loop-number.invariant)

pub returns : goal.returns
returns c = none_left (members c.loop-number.set) (workers_among c.args.numbers.now) c.args.numbers.now c.loop-number.number-index (omega arith) c.loop-number.invariant
