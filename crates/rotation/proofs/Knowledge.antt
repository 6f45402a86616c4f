-- What is noted of one worker more is right, and tells its successor and its step.
use Rattle.std.proofs.Common.{◌≡◌, ℕ, ◌<◌, true, List, get_or, is_some, Some, None, Option, sym, refl, ap, ◌∙◌, inl, inr, arith}
use Rattle.std.specs.Option.{option_map}
use Rattle.std.proofs.lemmas.Bool.{cases_eq, lt-ltb, false≢true, or_right, and_from, eq-eqb}
use Rattle.std.proofs.lemmas.Bool.Decides.{nat_tests}
use Rattle.fleet.specs.Sets.{Set, Within, with_worker, lowest}
use Rattle.fleet.specs.Market.{Market, Placement}
use Rattle.fleet.specs.Members.{members}
use Rattle.fleet.specs.declared.worker_set.WorkerSet.{WorkerSet}
use Rattle.fleet.proofs.Sizes.{same_at}
use Rattle.fleet.proofs.First.{SomeInj, Some≢None, lowest_some}
use Rattle.policy.specs.Choice.{Policy}
use Rattle.matching.specs.Stepping.{step, put_out, successor, displacement}
use Rattle.rotation.specs.Rotation.{target}
use Rattle.rotation.specs.Walking.{noted, Displacing}
use Rattle.rotation.proofs.Steps.{target_is}

-- one worker more is seen
module _ (a b : WorkerSet) (w : ℕ) where
  pub seen_here : w < 64 → members b ≡ with_worker (members a) w → members b w ≡ true
  seen_here l e = same_at e w ∙ or_right (members a w) _ (and_from _ _ (eq-eqb w w refl) (lt-ltb w 64 l))

module _ (m : Market) (C : Policy) (x : Placement) where
  -- the tenant and the worker of a displacement
  pub displacement_some : (w t v : ℕ) → displacement m C x w ≡ Some (t, v) → (step m C x w ≡ Some t) × (successor m C x w ≡ Some v) × (v < 64)
  displacement_some w t v e = at (step m C x w) refl
    where
      put : (s : ℕ) → step m C x w ≡ Some s → (o : Option ℕ) → lowest 64 (put_out C x s w) ≡ o → (step m C x w ≡ Some t) × (successor m C x w ≡ Some v) × (v < 64)
      put s h None k = absurd (Some≢None (sym (rw (h, displacement, k) at e)))
      put s h (Some u) k =
          let p : ◌≡◌ {A = ℕ × ℕ} (s, u) (t, v) = SomeInj (rw (h, displacement, k) at e) in
          let a : s ≡ t = ap (λ (q : ℕ × ℕ). q.0) p in
          let b : u ≡ v = ap (λ (q : ℕ × ℕ). q.1) p in
          let l = (lowest_some 64 (put_out C x s w) u k).1 in
          (h ∙ ap Some a, rw (h, successor) (k ∙ ap Some b), omega arith)

      at : (o : Option ℕ) → step m C x w ≡ o → (step m C x w ≡ Some t) × (successor m C x w ≡ Some v) × (v < 64)
      at None h = absurd (Some≢None (sym (rw (h, displacement) at e)))
      at (Some s) h = put s h (lowest 64 (put_out C x s w)) refl

  pub displacement_successor : (w : ℕ) → option_map (λ p. p.1) (displacement m C x w) ≡ successor m C x w
  displacement_successor w = at (step m C x w) refl
    where
      put : (s : ℕ) (o : Option ℕ) → option_map (λ (p : ℕ × ℕ). p.1) (option_map (λ (v : ℕ). (s, v)) o) ≡ o
      put s None = refl
      put s (Some u) = refl

      at : (o : Option ℕ) → step m C x w ≡ o → option_map (λ p. p.1) (displacement m C x w) ≡ successor m C x w
      at None h = rw (h, displacement, successor)
      at (Some s) h = rw (h, displacement, successor) (put s (lowest 64 (put_out C x s w)))

  some_since : (o : Option (ℕ × ℕ)) (u : ℕ) → option_map (λ p. p.1) o ≡ Some u → is_some o ≡ true
  some_since None u e = absurd (Some≢None (sym e))
  some_since (Some p) u e = refl

  -- a worker more that has a successor
  pub displacing_more : (old new A B : Set) (v u : ℕ) → Displacing m C x old A → Within old new →
      new v ≡ true → successor m C x v ≡ Some u → B ≡ with_worker A v → Displacing m C x new B
  displacing_more old new A B v u before more here e is y h = elim (cases_eq y v) [
    | inl q ↦ rw q (here, some_since (displacement m C x v) u (displacement_successor v ∙ e))
    | inr n ↦
        (let i = same_at is y in
        let (a, b) = before y (grind (arith, nat_tests)) in
        (more y a, b))
  ]

  -- what is noted of a worker that puts one out has the tenant that it steps to
  pub noted_target : (to : List ℕ) (next : List (Option ℕ)) (v : ℕ) → noted to next v ≡ displacement m C x v → is_some (displacement m C x v) ≡ true →
      get_or to v 0 ≡ target m C x v
  noted_target to next v right some = at (get_or next v None) refl
    where
      at : (o : Option ℕ) → get_or next v None ≡ o → get_or to v 0 ≡ target m C x v
      at None h = absurd (false≢true (ap is_some (sym (ap (option_map (λ (u : ℕ). (get_or to v 0, u))) h) ∙ right) ∙ some))
      at (Some u) h = sym (target_is m C x v (get_or to v 0) (displacement_some v (get_or to v 0) u (sym right ∙ ap (option_map (λ (z : ℕ). (get_or to v 0, z))) h)).0)

  -- and the worker that it puts out
  pub noted_successor : (to : List ℕ) (next : List (Option ℕ)) (v : ℕ) → noted to next v ≡ displacement m C x v → get_or next v None ≡ successor m C x v
  noted_successor to next v right = sym (again (get_or next v None)) ∙ ap (option_map (λ (p : ℕ × ℕ). p.1)) right ∙ displacement_successor v
    where
      again : (o : Option ℕ) → option_map (λ (p : ℕ × ℕ). p.1) (option_map (λ (u : ℕ). (get_or to v 0, u)) o) ≡ o
      again None = refl
      again (Some u) = refl
