-- Going along the successors: `later`, and `iter` where the successors never stop.
use Rattle.std.proofs.Common.{◌≡◌, ℕ, zero, suc, ◌+◌, ◌≤◌, Some, None, Option, sym, refl, ap, ◌∙◌, subst, inl, inr, arith}
use Rattle.std.proofs.lemmas.Bool.{cases_eq}
use Rattle.fleet.specs.Market.{Market, Placement}
use Rattle.policy.specs.Choice.{Policy}
use Rattle.matching.specs.Stepping.{successor}
use Rattle.rotation.specs.Rotation.{later}
use Rattle.fleet.proofs.First.{SomeInj, Some≢None}
use Rattle.rotation.proofs.Steps.{next, next_is}

-- n successors on from w, as a number
abbrev pub iter : Market → Policy → Placement → ℕ → ℕ → ℕ
iter m C x zero w = w
iter m C x (suc n) w = next m C x (iter m C x n w)

module _ (m : Market) (C : Policy) (x : Placement) where
  -- one successor more
  pub later_suc : (n w u : ℕ) (o : Option ℕ) → later m C x n w ≡ Some u → successor m C x u ≡ o → later m C x (suc n) w ≡ o
  later_suc n w u o e h = rw e h

  -- the worker before the last
  pub later_inv : (n w v : ℕ) → later m C x (suc n) w ≡ Some v → (u : ℕ) × (later m C x n w ≡ Some u) × (successor m C x u ≡ Some v)
  later_inv n w v e = go (later m C x n w) refl
    where
      go : (o : Option ℕ) → later m C x n w ≡ o → (u : ℕ) × (later m C x n w ≡ Some u) × (successor m C x u ≡ Some v)
      go None h = absurd (Some≢None (sym (rw (h, later) at e)))
      go (Some u) h = (u, h, (rw (h, later) at e))

  pub later_add : (k n w v : ℕ) → later m C x n w ≡ Some v → later m C x (k + n) w ≡ later m C x k v
  later_add zero n w v e = let z : 0 + n ≡ n = omega arith in rw z e
  later_add (suc k) n w v e = let z : suc k + n ≡ suc (k + n) = omega arith in rw z (rw (later_add k n w v e, later))

  -- where the successors stop, they stay stopped
  pub later_none : (i w j : ℕ) → i ≤ j → later m C x i w ≡ None → later m C x j w ≡ None
  later_none i w zero h e = let z : i ≡ 0 = omega arith in subst (λ n. later m C x n w ≡ None) z e
  later_none i w (suc j) h e = elim (cases_eq i (suc j)) [
    | inl z ↦ subst (λ n. later m C x n w ≡ None) z e
    | inr ne ↦ rw (later_none i w j (omega arith) e)
  ]

  pub later_iter : (n w v : ℕ) → later m C x n w ≡ Some v → iter m C x n w ≡ v
  later_iter zero w v e = SomeInj e
  later_iter (suc n) w v e =
      let r = later_inv n w v e in
      rw (later_iter n w r.0 r.1) (next_is m C x r.0 v r.2)

  -- where the successors come as far as j, they come as far as n before it
  pub later_down : (n j w v : ℕ) → n ≤ j → later m C x j w ≡ Some v → later m C x n w ≡ Some (iter m C x n w)
  later_down n j w v l e = go (later m C x n w) refl
    where
      go : (o : Option ℕ) → later m C x n w ≡ o → later m C x n w ≡ Some (iter m C x n w)
      go None h = absurd (Some≢None (sym e ∙ later_none n w j l h))
      go (Some u) h = h ∙ ap Some (sym (later_iter n w u h))

  pub iter_add : (n k w : ℕ) → iter m C x (n + k) w ≡ iter m C x n (iter m C x k w)
  iter_add zero k w = let e : 0 + k ≡ k = omega arith in rw e
  iter_add (suc n) k w = let e : suc n + k ≡ suc (n + k) = omega arith in rw e (ap (next m C x) (iter_add n k w))
