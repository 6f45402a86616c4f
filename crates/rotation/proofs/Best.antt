-- A stable placement is best for the tenants exactly where no rotation is left.
use Rattle.std.proofs.Common.{◌≡◌, ℕ, ◌<◌, true, ◌⊎◌, sym, ap, ◌∙◌, subst, inl, inr, arith}
use mathlib.Core.Path.{fun_ext}
use Rattle.std.proofs.lemmas.Bool.{cond-true, eq-eqb, eqb-true}
use Rattle.fleet.specs.Sets.{Set, union}
use Rattle.fleet.specs.Market.{Market, Placement, staff}
use Rattle.fleet.proofs.Sizes.{same_at}
use Rattle.policy.specs.Choice.{Policy}
use Rattle.matching.specs.Stable.{Given, Stable, AllLike, TenantBest, join}
use Rattle.rotation.specs.Rotation.{OnRotation, Cycle, target, after}
use Rattle.matching.proofs.Join.{join_stable, join_first_liked, join_second_liked}
use Rattle.rotation.proofs.Cycles.{displaces, orbit, orbit_cycle, orbit_start}
use Rattle.rotation.proofs.Applied.{target_moves, after_stable, after_liked}
use Rattle.rotation.proofs.Changed.{changed_rotation, some_change}

module _ {m : Market} {C : Policy} (given : Given m C) {x : Placement} (sx : Stable m C x) where
  -- a rotation would lead to another placement that all tenants like as well
  pub best_none : TenantBest m C x → (w : ℕ) → OnRotation m C x w → ⊥
  best_none best w r = target_moves c w h (sym same)
    where
      S : Set
      S = orbit r

      c : Cycle m C x S
      c = orbit_cycle r

      h : S w ≡ true
      h = orbit_start r

      t : ℕ
      t = target m C x w

      l : t < m.tenants
      l = given.sound.listed_below w t (displaces c w h).steps.on

      sides : union (staff x t) (staff (after m C x S) t) ≡ union (staff (after m C x S) t) (staff x t)
      sides = fun_ext (λ v. grind arith)

      staffs : staff x t ≡ staff (after m C x S) t
      staffs = sym (best (after m C x S) (after_stable given sx c) t l) ∙ ap (C t) sides ∙ after_liked given sx c t l

      same : x w ≡ t
      same = eqb-true (x w) t (same_at staffs w ∙ eq-eqb (after m C x S w) t (cond-true (S w) t (x w) h))

  -- the join with any other is a change, which would need a rotation, or the placement itself
  pub none_best : ((w : ℕ) → OnRotation m C x w → ⊥) → TenantBest m C x
  none_best none y sy = go (some_change given sx (join_stable given sx sy) (join_first_liked given sx sy))
    where
      go : ((w : ℕ) × (x w ≡ join m x y w → ⊥)) ⊎ ((w : ℕ) → x w ≡ join m x y w) → AllLike m C x y
      go (inl (w, n)) = let r = changed_rotation given sx (join_stable given sx sy) (join_first_liked given sx sy) w n in absurd (none r.0 r.1)
      go (inr f) = subst (λ (z : Placement). AllLike m C z y) (sym (fun_ext f)) (join_second_liked given sx sy)
