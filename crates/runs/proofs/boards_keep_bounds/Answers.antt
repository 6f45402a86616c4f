-- What the board never passes.
use Rattle.runs.proofs.Bounds.{board_bounds}
use Rattle.runs.proofs.boards_keep_bounds.Goals as goal

pub returns : goal.returns
returns c = board_bounds
