-- The laws of rotations at a stable placement, on lists of moves.
use Rattle.std.proofs.Common.{◌≡◌, ℕ, true, ◌⊎◌, List, Some, None, Option, sym, refl, ap, ◌∙◌, subst, inl, inr}
use Rattle.fleet.specs.Market.{Market, Placement}
use Rattle.fleet.specs.declared.Move.{Move}
use Rattle.policy.specs.Choice.{Policy}
use Rattle.matching.specs.Stable.{Given, Stable, AllLike, Between}
use Rattle.matching.specs.Stepping.{step, successor}
use Rattle.rotation.specs.Rotation.{target}
use Rattle.rotation.specs.Moves.{moves, Rotates, dest, MovedBy, applied}
use Rattle.rotation.specs.Laws.{RotationLaws}
use Rattle.rotation.proofs.Cycles.{leads, orbit, orbit_cycle, orbit_start, reach}
use Rattle.rotation.proofs.Applied.{after_liked, after_moves}
use Rattle.rotation.proofs.Changed.{changed_iter, changed_rotation}
use Rattle.rotation.proofs.Cover.{cover}
use Rattle.rotation.proofs.Commute.{same_step, same_successor}
use Rattle.rotation.proofs.Best.{best_none, none_best}
use Rattle.rotation.proofs.Rotates.{Apart, applied_after, dest_group, group_dest, rotates_same, rotates_stable, rotates_stays}

module _ {m : Market} {C : Policy} (given : Given m C) {x : Placement} (st : Stable m C x) where
  differs : (r : List Move) → Rotates m C x r → (w : ℕ) × (applied r x w ≡ x w → ⊥)
  differs r rot =
      let w = rot.cycle.leader in
      (w, λ e. after_moves rot.cycle w (leads rot.cycle) (sym (ap (λ (y : Placement). y w) (applied_after rot)) ∙ e))

  between : (r : List Move) → Rotates m C x r → (y : Placement) → Stable m C y → Between m C x y (applied r x) → (y ≡ x) ⊎ (y ≡ applied r x)
  between r rot y sy (above, below) =
      elim (cover given st rot.cycle sy above (subst (λ (z : Placement). AllLike m C z y) (applied_after rot) below)) [
        | inl e ↦ inl e
        | inr e ↦ inr (e ∙ sym (applied_after rot))
      ]

  others_stay : (r s : List Move) → Rotates m C x r → Rotates m C x s → ((w : ℕ) → MovedBy r w → MovedBy s w → ⊥) →
      Rotates m C (applied r x) s ×
      ((w : ℕ) → MovedBy s w → (step m C (applied r x) w ≡ step m C x w) × (successor m C (applied r x) w ≡ successor m C x w))
  others_stay r s rot rot' none = (
    rotates_stays given st rot rot' apart,
    λ w k.
        let in-s = (dest_group rot' w k.0 k.1).0 in
        subst (λ (y : Placement). (step m C y w ≡ step m C x w) × (successor m C y w ≡ successor m C x w)) (sym (applied_after rot))
        (same_step given st rot.cycle rot'.cycle off w in-s, same_successor given st rot.cycle rot'.cycle off w in-s),
  )
    where
      apart : Apart r s
      apart w t e = at (dest s w) refl
        where
          at : (o : Option ℕ) → dest s w ≡ o → dest s w ≡ None
          at None d = d
          at (Some u) d = absurd (none w (t, e) (u, d))

      off : (w : ℕ) → rot.group w ≡ true → rot'.group w ≡ true → ⊥
      off w h k = none w (target m C x w, group_dest rot w h) (target m C x w, group_dest rot' w k)

  needed : (y : Placement) → Stable m C y → AllLike m C y x → (w : ℕ) → (x w ≡ y w → ⊥) →
      (r : List Move) × Rotates m C x r × ((v : ℕ) → MovedBy r v → x v ≡ y v → ⊥)
  needed y sy like w n =
      let (v, on, d) = changed_rotation given st sy like w n in
      let rot : Rotates m C x (moves m C x (orbit on)) = record { group = orbit on; cycle = orbit_cycle on; listed = refl } in (
        moves m C x (orbit on),
        rot,
        λ u k.
            let f = reach (orbit_cycle on) v u (orbit_start on) (dest_group rot u k.0 k.1).0 in
            subst (λ (z : ℕ). x z ≡ y z → ⊥) f.1 (changed_iter given st sy like v d f.0).0,
      )

  pub rotation_laws : RotationLaws m C x
  rotation_laws = record {
    stable = λ r rot. rotates_stable given st rot;
    liked = λ r rot. subst (λ (y : Placement). AllLike m C y x) (sym (applied_after rot)) (after_liked given st rot.cycle);
    differs = differs;
    next = between;
    one_each = λ r s rot rot' w k l. rotates_same rot rot' w k.0 l.0 k.1 l.1;
    others_stay = others_stay;
    needed = needed;
    tenant_best = (best_none given st, none_best given st);
  }
