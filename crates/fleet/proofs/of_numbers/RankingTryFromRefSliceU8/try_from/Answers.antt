-- Each push is answered as the definition says, and nothing is left at the end.
use Rattle.std.proofs.Common.{arith, sym, ap, ◌∙◌, drop, ◌+◌}
use Rattle.std.proofs.lemmas.Result.{err_from_is_err_and}
use Rattle.fleet.specs.Rankings.{listed}
use Rattle.fleet.specs.OfNumbers.{ranking_all}
use Rattle.fleet.proofs.OfNumbers.{refused, pushed_on}
use Rattle.fleet.proofs.of_numbers.RankingTryFromRefSliceU8.try_from.Goals as goal

pub returns-in_err-push : goal.returns-in_err-push
returns-in_err-push g c =
    let p = err_from_is_err_and c.from_residual.result c.from_residual.ensures.1 in
    rw (p.1, p.2)
    (refused g.row.N (listed c.loop-number.ranking) c.args.numbers.now c.loop-number.number-index (omega arith) c.in_err-push.field-0.0 c.in_err-push.ensures.answer
    ∙ sym c.loop-number.invariant)

pub loop-number-preserved : goal.loop-number-preserved
loop-number-preserved g c =
    c.loop-number.invariant
    ∙ pushed_on g.row.N (listed c.loop-number.ranking) c.args.numbers.now c.loop-number.number-index (omega arith) c.in_ok-push.ensures.answer
    ∙ ap (λ l. ranking_all g.row.N l (drop (c.loop-number.number-index + 1) c.args.numbers.now)) (sym c.in_ok-push.ensures.after)
