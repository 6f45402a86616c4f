-- One move back more is on the list.
use Rattle.std.proofs.Common.{◌≡◌, List, [], ◌∷◌, ◌++◌, get_or, take, sym, refl, ap, ◌∙◌, ap₂, arith}
use Rattle.std.proofs.lemmas.List.{take_more}
use Rattle.fleet.specs.declared.Move.{Move}
use Rattle.rotation.specs.Moves.{turned, reversed}
use Rattle.rotation.proofs.move_list.MoveList.reversed.Goals as goal

reversed_push : (r : List Move) (k : Move) → reversed (r ++ (k ∷ [])) ≡ reversed r ++ (turned k ∷ [])
reversed_push [] k = refl
reversed_push (j ∷ js) k = ap (λ (r : List Move). turned j ∷ r) (reversed_push js k)

pub loop-step-preserved : goal.loop-step-preserved
loop-step-preserved c =
    let blank : Move = record { worker = 0; from = 0; to = 0 } in
    let ms = c.as_slice-step-items.result.now in
    let i = c.loop-step.step-index in
    let k : Move = get_or ms i blank in
    record {
      listed = c.push.ensures.moves ∙ ap₂ (λ (r : List Move) (j : Move). r ++ (j ∷ [])) c.loop-step.invariant.listed c.way_back.ensures ∙
          sym (ap reversed (take_more ms i blank (omega arith)) ∙ reversed_push (take i ms) k);
      long = omega (arith, c.push.ensures.len);
    }
