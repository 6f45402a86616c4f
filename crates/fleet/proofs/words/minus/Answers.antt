-- The bits that the other word lacks.
use Rattle.std.proofs.Common.{arith}
use mathlib.Core.Path.{fun_ext}
use Rattle.fleet.proofs.Bitwise.{and_not_bit}
use Rattle.fleet.proofs.words.minus.Goals as goal

pub returns : goal.returns
returns c = fun_ext (λ w. and_not_bit c.args.word c.args.other w (omega arith) (omega arith))
