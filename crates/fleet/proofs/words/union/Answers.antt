-- The bits of either word.
use mathlib.Core.Path.{fun_ext}
use Rattle.fleet.proofs.Bitwise.{or_bit}
use Rattle.fleet.proofs.words.union.Goals as goal

pub returns : goal.returns
returns c = fun_ext (or_bit c.args.word c.args.other)
