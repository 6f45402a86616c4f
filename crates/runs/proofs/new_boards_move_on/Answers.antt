-- Nothing stops a new board.
use Rattle.runs.proofs.Unstopped.{unstopped}
use Rattle.runs.proofs.new_boards_move_on.Goals as goal

pub returns : goal.returns
returns c = unstopped
