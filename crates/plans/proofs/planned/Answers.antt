-- An input that says a sheet comes to its plan.
use Rattle.std.proofs.Common.{◌≡◌, ℕ, ◌≤◌, List, length, Ok, Err, Result, refl, ap, ◌∙◌, subst}
use Rattle.std.proofs.lemmas.Result.{err_from_is_err_and}
use Rattle.std.proofs.lemmas.Bool.{le-ltb}
use Rattle.sheet.specs.Sheets.{SheetText}
use Rattle.sheet.specs.Reading.{decode}
use Rattle.report.specs.declared.input.Unread.{Unread}
use Rattle.report.specs.Inputs.{input_text, of_sheet}
use Rattle.plans.specs.Plans.{plan_of}
use Rattle.plans.specs.Laws.{EndsBest}
use Rattle.plans.proofs.planned.Goals as goal

ok_inj : (a b : SheetText) → ◌≡◌ {A = Result SheetText Unread} (Ok a) (Ok b) → a ≡ b
ok_inj a b e = cc

ok_err : (a : SheetText) (u : Unread) → ◌≡◌ {A = Result SheetText Unread} (Err u) (Ok a) → ⊥
ok_err a u e = cc

-- an input that is not too long and says a sheet
says : (bytes : List ℕ) (s : SheetText) → length bytes ≤ 65536 → decode bytes ≡ Ok s → input_text bytes ≡ Ok s
says bytes s h e = let short = le-ltb 65536 (length bytes) h in rw (short, e) refl

ends_best : SheetText → Type 0
ends_best s = EndsBest s

pub returns-in_err-sheet : goal.returns-in_err-sheet
returns-in_err-sheet c =
    let p = err_from_is_err_and c.from_residual.result c.from_residual.ensures.1 in
    rw (p.1, p.2) (record {
      plan = ap (of_sheet plan_of) c.in_err-sheet.ensures;
      best = λ s h e. absurd (ok_err s _ (c.in_err-sheet.ensures ∙ says c.args.bytes.now s h e));
    })

pub returns : goal.returns
unfolding ends_best
returns c = record {
  plan = ap Ok c.of.ensures.plan ∙ ap (of_sheet plan_of) c.in_ok-sheet.ensures;
  best = λ s h e. subst (λ (u : SheetText). ends_best u) (ok_inj _ s (c.in_ok-sheet.ensures ∙ says c.args.bytes.now s h e)) c.of.ensures.best;
}
