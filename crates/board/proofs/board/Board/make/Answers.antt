-- Every value of `Lists` is sound, and every policy keeps the laws.
use Rattle.matching.proofs.Facts.{lists_given}
use Rattle.board.proofs.board.Board.make.Goals as goal

pub returns-clause-given : goal.returns-clause-given
returns-clause-given g c = lists_given c.args.lists (g.met.P.Policy.lawful c.args.policy)
