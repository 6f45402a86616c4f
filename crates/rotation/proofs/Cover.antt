-- Nothing stable lies strictly between a placement and the one after a rotation.
use Rattle.std.proofs.Common.{◌≡◌, ℕ, ◌≤◌, Bool, true, false, ◌⊎◌, sym, refl, ◌∙◌, subst, inl, inr, arith}
use mathlib.Core.Path.{fun_ext}
use Rattle.std.proofs.lemmas.Bool.{cases_eq, cond-true}
use Rattle.fleet.specs.Sets.{Set}
use Rattle.fleet.specs.Market.{Market, Placement, rank, depth}
use Rattle.policy.specs.Choice.{Policy}
use Rattle.matching.specs.Stable.{Given, Stable, AllLike}
use Rattle.rotation.specs.Rotation.{Cycle, target, after}
use Rattle.matching.proofs.Facts.{placed_same}
use Rattle.matching.proofs.Polarity.{serves_from_liked}
use Rattle.rotation.proofs.Steps.{step_is, target_is}
use Rattle.rotation.proofs.Cycles.{reach}
use Rattle.rotation.proofs.Applied.{after_stable}
use Rattle.rotation.proofs.Changed.{changed, changed_worse, changed_iter, some_change}

module _ {m : Market} {C : Policy} (given : Given m C) {x : Placement} (sx : Stable m C x) {S : Set} (c : Cycle m C x S)
    {y : Placement} (sy : Stable m C y) (above : AllLike m C y x) (below : AllLike m C (after m C x S) y) where
  not_past : (w : ℕ) → depth m y w ≤ depth m (after m C x S) w
  not_past = serves_from_liked given sy (after_stable given sx c) below

  -- only workers of the rotation are changed
  changed_in : (w : ℕ) → (x w ≡ y w → ⊥) → S w ≡ true
  changed_in w n = go (S w) refl
    where
      go : (b : Bool) → S w ≡ b → S w ≡ true
      go true e = e
      go false e =
          let b : depth m y w ≤ depth m x w = rw e at (not_past w) in
          absurd (omega (arith, changed_worse given sx sy above w n))

  -- and they go all the way
  changed_to : (w : ℕ) → (x w ≡ y w → ⊥) → y w ≡ after m C x S w
  changed_to w n =
      let k = changed given sx sy above w n in
      let g = k.0 in
      let f : after m C x S w ≡ g = cond-true (S w) (target m C x w) (x w) (changed_in w n) ∙ target_is m C x w g (step_is m C x w k.2.steps) in
      let p : depth m y w ≤ rank (m.list w) g = rw f at (not_past w) in
      let q = k.4 in
      placed_same sy (after_stable given sx c) w (rw f (omega arith))

  pub cover : (y ≡ x) ⊎ (y ≡ after m C x S)
  cover = go (some_change given sx sy above)
    where
      go : ((w : ℕ) × (x w ≡ y w → ⊥)) ⊎ ((w : ℕ) → x w ≡ y w) → (y ≡ x) ⊎ (y ≡ after m C x S)
      go (inr f) = inl (sym (fun_ext f))
      go (inl (u, n)) = inr (fun_ext (λ w. at w (S w) refl (cases_eq (x w) (y w))))
        where
          at : (w : ℕ) (b : Bool) → S w ≡ b → (x w ≡ y w) ⊎ (x w ≡ y w → ⊥) → y w ≡ after m C x S w
          at w b e (inr d) = changed_to w d
          at w false e (inl i) = rw e (sym i)
          at w true e (inl i) =
              let r = reach c u w (changed_in u n) e in
              absurd (subst (λ (v : ℕ). x v ≡ y v → ⊥) r.1 (changed_iter given sx sy above u n r.0).0 i)
