-- One bit less, and none for a number past 63.
use Rattle.std.proofs.Common.{◌*◌, ◌%◌, ◌^◌, not, ◌&&◌, sym, ap, ◌∙◌, arith}
use mathlib.Core.Path.{fun_ext}
use Rattle.std.proofs.lemmas.Nat.{mod_below}
use Rattle.fleet.specs.Members.{bit}
use Rattle.fleet.proofs.Bitwise.{and_not_bit, shl_bit}
use Rattle.fleet.proofs.Same.{word_workers, without_past}
use Rattle.fleet.proofs.words.remove.Goals as goal

pub returns-then-number-ge64 : goal.returns-then-number-ge64
returns-then-number-ge64 c = sym (without_past (bit c.args.word) c.args.number (word_workers c.args.word (omega arith)) c.if-number-ge64.true)

pub returns : goal.returns
returns c =
    let a = c.args.word in
    let v = c.args.number in
    fun_ext (λ w. and_not_bit a (1 * 2 ^ v % 2 ^ 64) w (omega arith) (mod_below (1 * 2 ^ v) (2 ^ 64) (omega arith)) ∙ ap (λ x. bit a w && not x) (shl_bit v w c.if-number-ge64.false))
