-- The trailing zeros count up to the lowest member.
use Rattle.std.proofs.Common.{arith}
use Rattle.std.proofs.lemmas.Bool.Decides.{nat_tests}
use Rattle.fleet.proofs.Trailing.{trailing_lowest}
use Rattle.fleet.proofs.words.lowest.Goals as goal

pub returns-then-low-lt64 : goal.returns-then-low-lt64
returns-then-low-lt64 c = let e = trailing_lowest 64 c.args.word in grind (arith, nat_tests)

pub returns-else-low-lt64 : goal.returns-else-low-lt64
returns-else-low-lt64 c = let e = trailing_lowest 64 c.args.word in grind (arith, nat_tests)
