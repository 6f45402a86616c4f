-- One bit more.
use Rattle.std.proofs.Common.{◌*◌, ◌%◌, ◌^◌, ◌<◌, ◌||◌, sym, ap, ◌∙◌}
use mathlib.Core.Path.{fun_ext}
use Rattle.fleet.specs.Members.{bit}
use Rattle.fleet.proofs.Bitwise.{or_bit, shl_bit}
use Rattle.fleet.proofs.Same.{with_insert}
use Rattle.fleet.proofs.words.insert.Goals as goal

pub returns : goal.returns
returns c =
    let a = c.args.word in
    let v = c.args.number in
    let l : v < 64 = c.if-number-ge64.false in
    fun_ext (λ w. or_bit a (1 * 2 ^ v % 2 ^ 64) w ∙ ap (λ x. bit a w || x) (shl_bit v w l)) ∙ sym (with_insert (bit a) v l)
