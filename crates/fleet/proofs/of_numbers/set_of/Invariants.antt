-- The workers among all numbers are the members so far and the workers among those that are left.
use Rattle.std.proofs.Common.{◌≡◌, drop}
use Rattle.fleet.specs.Sets.{union}
use Rattle.fleet.specs.Members.{members}
use Rattle.fleet.specs.OfNumbers.{workers_among}
use Rattle.fleet.proofs.of_numbers.set_of.Given as goal

abbrev pub invariant-loop-number : goal.invariant-loop-number
invariant-loop-number l = union (members l.set) (workers_among (drop l.number-index l.numbers)) ≡ workers_among l.numbers
