-- A turn of the loop is a turn of the walk.
use Rattle.std.proofs.Common.{◌≡◌, ℕ, ◌+◌, true, ◌&&◌, ltb, get_or, set, sym, ap, ◌∙◌}
use Rattle.std.proofs.lemmas.Bool.{and_left, and_right}
use Rattle.fleet.specs.Members.{members}
use Rattle.fleet.proofs.Same.{members_workers}
use Rattle.policy.proofs.Seating.{seat_is, seats_one, seats_none}
use Rattle.policy.proofs.seated_policy.SeatedTenantTenant.choose.Goals as goal
use Rattle.policy.proofs.seated_policy.SeatedTenantTenant.choose.Goals.{then-contains+then-has_seat, then-contains+else-has_seat, else-contains}

pub class_of-class-requires : goal.class_of-class-requires
class_of-class-requires c = members_workers c.args.of _ (sym c.if-contains.ensures)

pub loop-worker-preserved : goal.loop-worker-preserved
loop-worker-preserved c =
    let classes = c.args.common.now.classes in
    let overall = c.args.self.now.overall in
    let caps = c.args.self.now.caps in
    let Z = members c.args.of in
    let l = c.as_slice-worker-items.result.now in
    let i = c.loop-worker.worker-index in
    let w = get_or l i 0 in
    let A = members c.loop-worker.chosen in
    let n = c.loop-worker.taken in
    let counts = c.loop-worker.by_class in
    let inv = c.loop-worker.invariant in
    let h = c.loop-worker-test.true in
    let known = c.args.common.now.known w in
    let seat = seat_is classes overall caps Z l i A n counts inv h known in
    let by_class = λ (k : ℕ). ltb n overall && ltb (get_or counts k 0) (get_or caps k 0) in
    elim c.if-contains.branch [
      | then-contains+then-has_seat v ↦
          let z : Z w ≡ true = sym v.if-contains.ensures in
          let class = v.class_of-class.ensures in
          seats_one classes overall caps Z l i A n counts inv h _ _ _ (members_workers c.args.of w z) known z
          (seat ∙ sym (v.if-has_seat.ensures ∙ ap by_class class))
          (ap members v.chosen-is ∙ v.with-chosen.ensures) v.taken-is (v.by_class-is ∙ ap (λ (k : ℕ). set counts k (get_or counts k 0 + 1)) class)
      | then-contains+else-has_seat v ↦
          seats_none classes overall caps Z l i A n counts inv h _ _ _
          (and_right (Z w) _ (seat ∙ sym (v.if-has_seat.ensures ∙ ap by_class v.class_of-class.ensures)))
          (ap members v.chosen-is) v.taken-is v.by_class-is
      | else-contains v ↦
          seats_none classes overall caps Z l i A n counts inv h _ _ _ (and_left (Z w) _ (sym v.if-contains.ensures))
          (ap members v.chosen-is) v.taken-is v.by_class-is
    ]
