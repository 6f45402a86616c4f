-- It is known already, or learned.
use Rattle.std.proofs.Common.{◌≡◌, true, Bor, sym, refl, ap, ◌∙◌}
use Rattle.fleet.specs.Lists.{market}
use Rattle.fleet.specs.Members.{members}
use Rattle.matching.specs.declared.farm.Situation.{Situation}
use Rattle.matching.specs.Farms.{placed, in_situation}
use Rattle.matching.specs.Stepping.{successor}
use Rattle.rotation.proofs.Knowledge.{noted_successor, seen_here}
use Rattle.rotation.proofs.walker.Walker.successor.Goals as goal
use Rattle.rotation.proofs.walker.Walker.successor.Goals.{then-not-contains, else-not-contains}

pub returns-clause-next : goal.returns-clause-next
returns-clause-next g c =
    let w = c.args.worker in
    let old = c.args.self.now in
    let new = c.if-not-contains.self in
    let C = g.P.Policy.chosen in
    let now : (new.situation ≡ old.situation) × (members new.seen w ≡ true) =
    elim c.if-not-contains.branch [
      | then-not-contains u ↦ rw u.self-is (u.learn.ensures.stays, seen_here old.seen u.learn.new.self.seen w c.requires u.learn.ensures.seen)
      | else-not-contains u ↦ rw u.self-is (refl, sym u.if-not-contains.ensures)
    ] in
    let s = new.situation.now in
    noted_successor (market s.farm.now.lists.now) (C s.farm.now.policy.now) (placed s) new.to.places new.next w (new.right w now.1) ∙
    ap (λ (b : Bor (Situation g.row.P.Denot)). in_situation C b.now successor w) now.0
