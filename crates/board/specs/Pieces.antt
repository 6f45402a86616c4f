-- Rotations that lie one behind the other in an array of moves.
use Rattle.std.specs.Prelude.{ℕ, List, [], ◌∷◌, take, drop, Some, None, Option}
use Rattle.fleet.specs.declared.Move.{Move}
use Rattle.runs.specs.States.{Rotation}
use Rattle.board.specs.declared.drain.Drained.{Drained}

-- so many moves from a place on
abbrev pub piece : ℕ → ℕ → List Move → Rotation
piece at size ms = take size (drop at ms)

-- the moves cut into rotations of these sizes; shut, so that no proof cuts 480 times
unfoldable pub cut : List ℕ → List Move → List Rotation
cut [] ms = []
cut (n ∷ ns) ms = take n ms ∷ cut ns (drop n ms)

-- how many moves are drained
abbrev pub size_of : Option Drained → ℕ
size_of None = 0
size_of (Some d) = d.size

-- the event number of the drain, 0 where there is none
abbrev pub number_of : Option Drained → ℕ
number_of None = 0
number_of (Some d) = d.number

-- the drained rotation, whose moves lie from `at` on, or none
abbrev pub opened : Option Drained → ℕ → List Move → List Rotation
opened None at ms = []
opened (Some d) at ms = piece at d.size ms ∷ []
