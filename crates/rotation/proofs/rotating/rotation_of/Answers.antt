-- What is found, from Listed, and the laws of rotations, from RotationLaws.
use Rattle.std.proofs.Common.{List, Option, Bor, sym, ap, ◌∙◌, subst}
use Rattle.fleet.specs.Lists.{market}
use Rattle.fleet.specs.declared.Move.{Move}
use Rattle.matching.specs.Farms.{placed, in_situation}
use Rattle.matching.specs.declared.farm.Situation.{Situation}
use Rattle.matching.proofs.Facts.{lists_given}
use Rattle.rotation.specs.Moves.{rotation_at}
use Rattle.rotation.specs.Laws.{FindsRotation}
use Rattle.rotation.proofs.Listed.{finds_rotation}
use Rattle.rotation.proofs.RotationLaws.{rotation_laws}
use Rattle.rotation.proofs.rotating.rotation_of.Goals as goal

pub returns : goal.returns
returns g c =
    let s = c.args.situation.now in
    let m = market s.farm.now.lists.now in
    let C = g.P.Policy.chosen s.farm.now.policy.now in
    let x = placed s in
    let e = c.rotation.ensures ∙ ap (λ (b : Bor (Situation g.row.P.Denot)). in_situation g.P.Policy.chosen b.now rotation_at c.args.worker) c.new.ensures.situation in
    record {
      moves = e;
      found = subst (λ (o : Option (List Move)). FindsRotation m C x c.args.worker o) (sym e) (finds_rotation m C x c.args.worker);
      laws = rotation_laws (lists_given s.farm.now.lists.now (g.met.P.Policy.lawful s.farm.now.policy.now));
    }
