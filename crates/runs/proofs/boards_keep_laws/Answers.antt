-- The laws of the board over every run.
use Rattle.runs.proofs.Agree.{board_laws}
use Rattle.runs.proofs.boards_keep_laws.Goals as goal

pub returns : goal.returns
returns c = board_laws
