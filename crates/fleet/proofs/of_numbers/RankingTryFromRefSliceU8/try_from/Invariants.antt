-- What comes of all numbers comes of those that are left, pushed onto the ranking so far.
use Rattle.std.proofs.Common.{◌≡◌, [], drop}
use Rattle.fleet.specs.Rankings.{listed}
use Rattle.fleet.specs.OfNumbers.{ranking_all}
use Rattle.fleet.proofs.of_numbers.RankingTryFromRefSliceU8.try_from.Given as goal

abbrev pub invariant-loop-number : goal.invariant-loop-number
invariant-loop-number g l = ranking_all g.row.N [] l.numbers ≡ ranking_all g.row.N (listed l.ranking) (drop l.number-index l.numbers)
