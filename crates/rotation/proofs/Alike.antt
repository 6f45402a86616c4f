-- Policies that choose alike have the same steps and rotations.
use Rattle.std.proofs.Common.{◌≡◌, ℕ, zero, suc, ◌<◌, not, ◌&&◌, eqb, ltb, ◌⊎◌, Some, None, Option, sym, refl, ap, ◌∙◌, inl, inr}
use mathlib.Core.Path.{fun_ext}
use Rattle.std.proofs.lemmas.Bool.{eqb-true, or_cases}
use Rattle.fleet.specs.Sets.{Set, insert, lowest}
use Rattle.fleet.specs.Market.{Market, Sound, Placement, rank, On, staff, depth}
use Rattle.policy.specs.Choice.{Policy, Alike}
use Rattle.matching.specs.Stepping.{candidate, step, successor}
use Rattle.rotation.specs.Rotation.{later, Cycle}
use Rattle.matching.proofs.Facts.{on_worker}
use Rattle.matching.proofs.Firsts.{first_agree}
use Rattle.matching.proofs.Alike.{staff_below}
use Rattle.rotation.proofs.Steps.{step_some}

module _ {m : Market} {C D : Policy} (sound : Sound m) (alike : Alike m C D) where
  module _ (x : Placement) (listed : (w : ℕ) → (x w ≡ 255) ⊎ On (m.list w) (x w)) where
    chooses_alike : (w t : ℕ) → On (m.list w) t → C t (insert (staff x t) w) ≡ D t (insert (staff x t) w)
    chooses_alike w t o =
        let below : t < m.tenants = sound.listed_below w t o in
        alike t below (insert (staff x t) w)
        (λ v s. elim (or_cases (staff x t v) (eqb v w) s) [
          | inl k ↦ staff_below sound alike x listed t below v k
          | inr k ↦ rw (eqb-true v w k) (on_worker sound w t o)
        ])

    pub step_alike : (w : ℕ) → step m C x w ≡ step m D x w
    step_alike w =
        first_agree (candidate m C x w) (candidate m D x w) (m.list w)
        (λ t o. ap (λ f. ltb (depth m x w) (rank (m.list w) t) && f w) (chooses_alike w t o))

    successor_alike : (w : ℕ) → successor m C x w ≡ successor m D x w
    successor_alike w = go (step m C x w) refl
      where
        go : (o : Option ℕ) → step m C x w ≡ o → successor m C x w ≡ successor m D x w
        go None e = let f = sym (step_alike w) ∙ e in rw (e, f, successor)
        go (Some t) e =
            let f = sym (step_alike w) ∙ e in
            rw (e, f, successor) (ap (λ (F : Set). lowest 64 (λ v. staff x t v && not (F v))) (chooses_alike w t (step_some m C x w t e).on))

    later_alike : (n w : ℕ) → later m C x n w ≡ later m D x n w
    later_alike zero w = refl
    later_alike (suc n) w = rw (← later_alike n w) (ap (λ (f : ℕ → Option ℕ). elim (later m C x n w) [ Some v ↦ f v | None ↦ None ]) (fun_ext successor_alike))

    pub cycle_alike : {S : Set} → Cycle m C x S → Cycle m D x S
    cycle_alike c = record {
      leader = c.leader;
      comes_again = record {
        period = c.comes_again.period;
        some_steps = c.comes_again.some_steps;
        again = sym (later_alike c.comes_again.period c.leader) ∙ c.comes_again.again;
      };
      members = λ v. (
        λ s. let (n, e) = (c.members v).0 s in (n, sym (later_alike n c.leader) ∙ e),
        λ f. (c.members v).1 (f.0, later_alike f.0 c.leader ∙ f.1),
      );
    }
