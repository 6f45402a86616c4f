-- The bit that is asked for, and none past the word.
use Rattle.std.proofs.Common.{ℕ, ◌/◌, ◌^◌, eqb, sym, ap, ◌∙◌, arith}
use Rattle.std.proofs.lemmas.Nat.{and_mask}
use Rattle.std.proofs.lemmas.Bool.{le-ltb}
use Rattle.fleet.specs.Members.{bit}
use Rattle.fleet.proofs.Bitwise.{past_bit}
use Rattle.fleet.proofs.words.contains.Goals as goal

pub returns-then-number-lt64 : goal.returns-then-number-lt64
unfolding bit
returns-then-number-lt64 c = ap (λ (n : ℕ). eqb n 1) (and_mask (c.args.word / 2 ^ c.args.number) 1)

pub returns-else-number-lt64 : goal.returns-else-number-lt64
returns-else-number-lt64 c =
    le-ltb c.args.number 64 c.if-number-lt64.false ∙ sym (past_bit 64 c.args.word c.args.number (omega arith) c.if-number-lt64.false)
