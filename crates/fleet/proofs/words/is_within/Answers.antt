-- Nothing is left exactly where every member is in the other word.
use Rattle.std.proofs.Common.{◌≡◌, ℕ, false, not, ◌&&◌, ap, ◌∙◌, arith}
use Rattle.std.proofs.lemmas.Bool.{eqb-true, eq-eqb}
use Rattle.fleet.specs.Members.{bit}
use Rattle.fleet.proofs.Bitwise.{none_bit, same_bits}
use Rattle.fleet.proofs.Sizes.{same_at}
use Rattle.fleet.proofs.words.is_within.Goals as goal

pub returns : goal.returns
returns c =
    let a = c.args.word in
    let b = c.args.other in
    let d = c.minus.result in
    let each : (w : ℕ) → bit d w ≡ (bit a w && not (bit b w)) = same_at c.minus.ensures in (
      (λ z w h. let e : bit d w ≡ false = ap (λ (n : ℕ). bit n w) (eqb-true d 0 z) ∙ none_bit w in let k = each w in grind arith),
      (λ i. eq-eqb d 0 (same_bits 64 d 0 (omega arith) (omega arith) (λ w. let k = each w in let j = i w in let n = none_bit w in grind arith))),
    )
