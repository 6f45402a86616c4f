-- One move more is made, the last of those that are left.
use Rattle.std.proofs.Common.{◌≡◌, ℕ, List, [], ◌∷◌, set, sym, refl, ap, ◌∙◌}
use Rattle.std.specs.List.{push}
use Rattle.fleet.specs.declared.Move.{Move}
use Rattle.rotation.specs.Moves.{moved}
use Rattle.rotation.proofs.move_list.MoveList.applied_to.Goals as goal

moved_push : (r : List Move) (k : Move) (l : List ℕ) → moved (push r k) l ≡ moved r (set l k.worker k.to)
moved_push [] k l = refl
moved_push (j ∷ js) k l = ap (λ (p : List ℕ). set p j.worker j.to) (moved_push js k l)

pub loop-step-preserved : goal.loop-step-preserved
loop-step-preserved c =
    let rest = c.next.new.self.iter.rest.now in
    let k = c.in-Some.step.now in
    let l = c.loop-step.places in (
      tt,
      tt,
      record {
        left = ap (moved rest) c.make.ensures ∙ sym (moved_push rest k l) ∙ ap (λ (r : List Move). moved r l) (sym c.in-Some.ensures.steps) ∙ c.loop-step.invariant.2.left;
        long = c.make.array_long;
      },
    )
