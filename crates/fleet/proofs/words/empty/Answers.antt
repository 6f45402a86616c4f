-- The word 0 has no bits.
use mathlib.Core.Path.{fun_ext}
use Rattle.fleet.proofs.Bitwise.{none_bit}
use Rattle.fleet.proofs.words.empty.Goals as goal

pub returns : goal.returns
returns c = fun_ext none_bit
