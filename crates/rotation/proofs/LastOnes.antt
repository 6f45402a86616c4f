-- The lowest worker on a rotation, one worker more; where none is left the placement is best for the tenants.
use Rattle.std.proofs.Common.{◌≡◌, ℕ, ◌+◌, false, is_some, Some, None, Option, ◌↔◌, sym, refl, ap, ◌∙◌, inl, inr, add-one}
use Rattle.std.proofs.lemmas.Bool.{cases_lt, true≢false}
use Rattle.fleet.specs.Sets.{Set, lowest}
use Rattle.fleet.specs.Market.{Market, Placement}
use Rattle.fleet.proofs.First.{lowest_none, none_below}
use Rattle.policy.specs.Choice.{Policy}
use Rattle.matching.specs.Stable.{Given, Stable, TenantBest}
use Rattle.rotation.specs.Rotation.{OnRotation}
use Rattle.rotation.specs.Moves.{rotation_at, on_rotation}
use Rattle.rotation.proofs.Best.{best_none, none_best}
use Rattle.rotation.proofs.Walks.{missing_off, off_missing}
use Rattle.rotation.proofs.Gathered.{rotation_past}

-- one worker more is on none
pub lowest_more : (n : ℕ) (A : Set) → lowest n A ≡ None → A n ≡ false → lowest (n + 1) A ≡ None
lowest_more n A e h = rw add-one (rw (e, lowest, h))

none_since : {A : Type 0} (o : Option A) → is_some o ≡ false → o ≡ None
none_since None e = refl
none_since (Some a) e = absurd (true≢false e)

module _ {m : Market} {C : Policy} (given : Given m C) {x : Placement} (st : Stable m C x) where
  -- where no worker is on a rotation, nobody is
  off : lowest m.workers (on_rotation m C x) ≡ None → (w : ℕ) → OnRotation m C x w → ⊥
  off e w = missing_off m C x w (elim (cases_lt w m.workers) [
    | inl l ↦ none_since (rotation_at m C x w) (none_below m.workers (on_rotation m C x) e w l)
    | inr l ↦ sym (rotation_past m C x w (given.sound.past_empty w l))
  ])

  pub none_left : lowest m.workers (on_rotation m C x) ≡ None → TenantBest m C x
  none_left e = none_best given st (off e)

  pub left_none : TenantBest m C x → lowest m.workers (on_rotation m C x) ≡ None
  left_none best = lowest_none m.workers (on_rotation m C x) (λ w l. ap is_some (off_missing m C x w (best_none given st best w)))

-- at a stable placement there is no lowest worker on a rotation exactly where the placement is best for the tenants
pub lowest_best : {m : Market} {C : Policy} → Given m C → (x : Placement) (found : Option ℕ) → found ≡ lowest m.workers (on_rotation m C x) → Stable m C x →
    (found ≡ None) ↔ TenantBest m C x
lowest_best given x found e st = (λ h. none_left given st (sym e ∙ h), λ best. e ∙ left_none given st best)
