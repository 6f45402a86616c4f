-- Lists of moves as code holds them.
use Rattle.std.specs.Prelude.{List, take, Some, None, Option}
use Rattle.fleet.specs.declared.Move.{Move}
use Rattle.rotation.specs.declared.move_list.MoveList.{MoveList}

-- the moves of a list
abbrev pub listing : MoveList → List Move
listing l = take l.len l.moves

-- the moves that were found, if any were
abbrev pub shown : Option MoveList → Option (List Move)
shown None = None
shown (Some l) = Some (listing l)
