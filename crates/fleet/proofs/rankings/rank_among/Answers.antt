-- The place of the first that is equal, or else the length, is the rank.
use Rattle.std.proofs.Common.{rules}
use Rattle.fleet.proofs.Library.{position_rank}
use Rattle.fleet.proofs.rankings.rank_among.Goals as goal

pub returns : goal.returns
returns c = let e = position_rank c.args.numbers.now c.args.number in search rules
