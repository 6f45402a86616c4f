-- A word has as many ones as members.
use Rattle.std.proofs.Common.{arith}
use Rattle.fleet.specs.Sets.{size}
use Rattle.fleet.proofs.Bitwise.{ones_count}
use Rattle.fleet.proofs.words.count.Goals as goal

pub returns : goal.returns
unfolding size
returns c = ones_count 64 c.args.word (omega arith)
