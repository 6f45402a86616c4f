-- One worker more is named or not.
use Rattle.std.proofs.Common.{get_or, ap, ◌∙◌, arith}
use Rattle.std.proofs.lemmas.Bool.{eq-eqb, ne_eqb}
use Rattle.fleet.specs.Sets.{Set, with_worker}
use Rattle.fleet.specs.Members.{members}
use Rattle.fleet.proofs.Different.{among_getD}
use Rattle.policy.proofs.Naming.{bit_test, names, names_not, names_all}
use Rattle.policy.proofs.table_policy.named.Goals as goal
use Rattle.policy.proofs.table_policy.named.Goals.{then-bits-place-eq1, else-bits-place-eq1}

pub loop-place-preserved : goal.loop-place-preserved
loop-place-preserved c =
    let ws = c.args.workers.now in
    let i = c.loop-place.place in
    let l = c.loop-place-test.true in
    elim c.if-bits-place-eq1.branch [
      | then-bits-place-eq1 w ↦
          ap members w.chosen-is ∙ w.with-chosen.ensures ∙ ap (λ (A : Set). with_worker A (get_or ws i 0)) c.loop-place.invariant
          ∙ names ws c.requires.1.0 c.args.bits i l (c.requires.1.1 (get_or ws i 0) (among_getD ws i 0 l)) (bit_test c.args.bits i ∙ eq-eqb _ 1 w.if-bits-place-eq1.true)
      | else-bits-place-eq1 w ↦ ap members w.chosen-is ∙ c.loop-place.invariant ∙ names_not ws c.requires.1.0 c.args.bits i l (bit_test c.args.bits i ∙ ne_eqb _ 1 w.if-bits-place-eq1.false)
    ]

pub returns : goal.returns
returns c = c.loop-place.invariant ∙ names_all c.args.workers.now c.args.bits c.loop-place.place (omega arith)
