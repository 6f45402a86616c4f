-- The workers of a rotation: each has a successor among them and is the successor of one, and each comes again within 64 steps.
use Rattle.std.proofs.Common.{◌≡◌, ℕ, zero, suc, ◌+◌, ◌-◌, ◌<◌, ◌≤◌, true, eqb, Some, sym, refl, ap, ◌∙◌, subst, inl, inr, arith}
use Rattle.std.proofs.lemmas.Bool.{cases_lt, eq-eqb, eqb-true}
use Rattle.fleet.specs.Sets.{Set, Within, Workers, any_below}
use Rattle.fleet.specs.Market.{Market, Placement}
use Rattle.fleet.proofs.Sizes.{set_ext, any_some, any_from, pigeonhole}
use Rattle.policy.specs.Choice.{Policy}
use Rattle.matching.specs.Stepping.{step, successor}
use Rattle.rotation.specs.Rotation.{later, OnRotation, Cycle, target}
use Rattle.rotation.proofs.Steps.{Displaces, step_is, successor_some, next}
use Rattle.rotation.proofs.Later.{iter, later_suc, later_inv, later_add, later_iter, later_down, iter_add}

-- a worker w that comes again
module _ {m : Market} {C : Policy} {x : Placement} {w : ℕ} (r : OnRotation m C x w) where
  -- w comes again after any number of steps
  far : (n : ℕ) → (j : ℕ) × (n ≤ j) × (later m C x j w ≡ Some w)
  far zero = (0, omega arith, refl)
  far (suc n) =
      let f = far n in
      let l = f.1 in
      let s = r.some_steps in
      (f.0 + r.period, omega arith, later_add m C x f.0 r.period w w r.again ∙ f.2)

  -- the successors never stop
  pub goes_on : (n : ℕ) → later m C x n w ≡ Some (iter m C x n w)
  goes_on n = let f = far n in later_down m C x n f.0 w w f.1 f.2

  -- after a period all are where they were
  round : (n : ℕ) → iter m C x r.period (iter m C x n w) ≡ iter m C x n w
  round n =
      let e : r.period + n ≡ n + r.period = omega arith in
      sym (iter_add m C x r.period n w) ∙ ap (λ (k : ℕ). iter m C x k w) e ∙ iter_add m C x n r.period w ∙ ap (iter m C x n) (later_iter m C x r.period w w r.again)

  -- they lead back to w from each that follows it
  back : (n : ℕ) → (k : ℕ) × (iter m C x k (iter m C x n w) ≡ w)
  back n =
      let f = far n in
      let l = f.1 in
      let e : (f.0 - n) + n ≡ f.0 = omega arith in
      (f.0 - n, sym (iter_add m C x (f.0 - n) n w) ∙ ap (λ (k : ℕ). iter m C x k w) e ∙ later_iter m C x f.0 w w f.2)

  -- the workers that come before w comes again
  pub orbit : Set
  orbit v = any_below r.period (λ n. eqb (iter m C x n w) v)

  -- all that follow w are among them
  orbit_iter : (n : ℕ) → orbit (iter m C x n w) ≡ true
  unfolding orbit
  orbit_iter zero = any_from (λ k. eqb (iter m C x k w) w) r.period 0 r.some_steps (eq-eqb w w refl)
  orbit_iter (suc n) =
      let (k, l, h) = any_some (λ k. eqb (iter m C x k w) (iter m C x n w)) r.period (orbit_iter n) in
      let e : iter m C x (suc k) w ≡ iter m C x (suc n) w = ap (next m C x) (eqb-true _ _ h) in
      elim (cases_lt (suc k) r.period) [
        | inl q ↦ any_from (λ k. eqb (iter m C x k w) (iter m C x (suc n) w)) r.period (suc k) q (eq-eqb _ _ e)
        | inr q ↦
            (let z : r.period ≡ suc k = omega arith in
            any_from (λ k. eqb (iter m C x k w) (iter m C x (suc n) w)) r.period 0 r.some_steps
            (eq-eqb w _ (sym (round 0) ∙ ap (λ (k : ℕ). iter m C x k w) z ∙ e)))
      ]

  -- the rotation of w
  pub orbit_cycle : Cycle m C x orbit
  unfolding orbit
  orbit_cycle = record {
    leader = w;
    comes_again = r;
    members = λ v. (
      λ h. let (n, l, e) = any_some (λ n. eqb (iter m C x n w) v) r.period h in (n, goes_on n ∙ ap Some (eqb-true _ _ e)),
      λ f. subst (λ (u : ℕ). orbit u ≡ true) (later_iter m C x f.0 w v f.1) (orbit_iter f.0),
    );
  }

  pub orbit_start : orbit w ≡ true
  orbit_start = orbit_iter 0

-- the members S of a rotation
module _ {m : Market} {C : Policy} {x : Placement} {S : Set} (c : Cycle m C x S) where
  -- the leader is one of them
  pub leads : S c.leader ≡ true
  leads = (c.members c.leader).1 (0, refl)

  at : (v : ℕ) → S v ≡ true → (n : ℕ) × (iter m C x n c.leader ≡ v)
  at v h = let f = (c.members v).0 h in (f.0, later_iter m C x f.0 c.leader v f.1)

  -- each has a successor
  pub has_successor : (w : ℕ) → S w ≡ true → successor m C x w ≡ Some (next m C x w)
  has_successor w h =
      let (n, e) = at w h in
      let (u, a, b) = later_inv m C x n c.leader (iter m C x (suc n) c.leader) (goes_on c.comes_again (suc n)) in
      let i : w ≡ u = sym e ∙ later_iter m C x n c.leader u a in
      ap (successor m C x) i ∙ b ∙ ap (λ (v : ℕ). Some (next m C x v)) e

  -- which is one of them too
  pub stays : (w : ℕ) → S w ≡ true → S (next m C x w) ≡ true
  stays w h =
      let f = (c.members w).0 h in
      (c.members (next m C x w)).1 (suc f.0, later_suc m C x f.0 c.leader w (Some (next m C x w)) f.1 (has_successor w h))

  pub stays_iter : (w : ℕ) → S w ≡ true → (n : ℕ) → S (iter m C x n w) ≡ true
  stays_iter w h zero = h
  stays_iter w h (suc n) = stays (iter m C x n w) (stays_iter w h n)

  pub later_all : (w : ℕ) → S w ≡ true → (n : ℕ) → later m C x n w ≡ Some (iter m C x n w)
  later_all w h zero = refl
  later_all w h (suc n) = later_suc m C x n w (iter m C x n w) (Some (iter m C x (suc n) w)) (later_all w h n) (has_successor (iter m C x n w) (stays_iter w h n))

  -- each is the successor of one
  pub onto : (v : ℕ) → S v ≡ true → (w : ℕ) × (S w ≡ true) × (next m C x w ≡ v)
  onto v h = let (n, e) = at v h in from n e
    where
      l : ℕ
      l = c.leader

      first : (p : ℕ) → p ≡ c.comes_again.period → (u : ℕ) × (S u ≡ true) × (next m C x u ≡ l)
      first zero e = let z = c.comes_again.some_steps in absurd (omega arith)
      first (suc q) e = (iter m C x q l, stays_iter l leads q, ap (λ (k : ℕ). iter m C x k l) e ∙ round c.comes_again 0)

      from : (n : ℕ) → iter m C x n l ≡ v → (w : ℕ) × (S w ≡ true) × (next m C x w ≡ v)
      from zero e = let f = first c.comes_again.period refl in (f.0, f.1, f.2 ∙ e)
      from (suc n) e = (iter m C x n l, stays_iter l leads n, e)

  -- and of only one
  pub next_inj : (a b : ℕ) → S a ≡ true → S b ≡ true → next m C x a ≡ next m C x b → a ≡ b
  next_inj a b h k e = go c.comes_again.period refl
    where
      turn : (q v : ℕ) → suc q ≡ c.comes_again.period → S v ≡ true → iter m C x q (next m C x v) ≡ v
      turn q v p i =
          let (n, j) = at v i in
          let z : q + 1 ≡ suc q = omega arith in
          sym (iter_add m C x q 1 v) ∙ ap (λ (k : ℕ). iter m C x k v) (z ∙ p) ∙ subst (λ (u : ℕ). iter m C x c.comes_again.period u ≡ u) j (round c.comes_again n)

      go : (p : ℕ) → p ≡ c.comes_again.period → a ≡ b
      go zero p = let z = c.comes_again.some_steps in absurd (omega arith)
      go (suc q) p = sym (turn q a p h) ∙ ap (iter m C x q) e ∙ turn q b p k

  -- each is reached from each
  pub reach : (v w : ℕ) → S v ≡ true → S w ≡ true → (n : ℕ) × (iter m C x n v ≡ w)
  reach v w h k =
      let (i, e) = at v h in
      let (j, f) = at w k in
      let (b, q) = back c.comes_again i in
      (j + b, iter_add m C x j b v ∙ ap (iter m C x j) (sym (ap (iter m C x b) e) ∙ q) ∙ f)

  -- each comes again
  pub cycle_on : (w : ℕ) → S w ≡ true → OnRotation m C x w
  cycle_on w h =
      let (n, e) = reach (next m C x w) w (stays w h) h in
      record { period = n + 1; some_steps = omega arith; again = later_all w h (n + 1) ∙ ap Some (iter_add m C x n 1 w ∙ e) }

  -- each displaces its successor
  pub displaces : (w : ℕ) → S w ≡ true → Displaces m C x w (target m C x w) (next m C x w)
  displaces w h = successor_some m C x w (next m C x w) (has_successor w h)

  pub has_step : (w : ℕ) → S w ≡ true → step m C x w ≡ Some (target m C x w)
  has_step w h = step_is m C x w (displaces w h).steps

  -- they are worker numbers
  pub cycle_workers : Workers S
  cycle_workers v h = let (u, k, e) = onto v h in rw e at (displaces u k).small

-- a worker is on at most one rotation
module _ {m : Market} {C : Policy} {x : Placement} where
  cycle_within : {S R : Set} → Cycle m C x S → Cycle m C x R → (w : ℕ) → S w ≡ true → R w ≡ true → Within S R
  cycle_within {S} {R} c d w h k v i = let (n, e) = reach c w v h i in subst (λ (u : ℕ). R u ≡ true) e (stays_iter d w k n)

  pub one_cycle : {S R : Set} → Cycle m C x S → Cycle m C x R → (w : ℕ) → S w ≡ true → R w ≡ true → S ≡ R
  one_cycle {S} {R} c d w h k = set_ext S R (cycle_within c d w h k) (cycle_within d c w k h)

  -- who comes again does so within 64 steps
  pub soon_again : (w : ℕ) → OnRotation m C x w → (n : ℕ) × (0 < n) × (n ≤ 64) × (later m C x n w ≡ Some w)
  soon_again w r =
      let c = orbit_cycle r in
      let (i, j, a, b, e) = pigeonhole 64 (λ n. iter m C x n w) (λ n l. cycle_workers c (iter m C x n w) (stays_iter c w (orbit_start r) n)) in
      let (k, q) = back r i in
      let p : ℕ = j - i in
      let z : p + i ≡ j = omega arith in
      let again : iter m C x p (iter m C x i w) ≡ iter m C x i w = sym (iter_add m C x p i w) ∙ ap (λ (n : ℕ). iter m C x n w) z ∙ sym e in
      (p, omega arith, omega arith, goes_on r p ∙ ap Some (ap (iter m C x p) (sym q) ∙ shift p k (iter m C x i w) again ∙ q))
    where
      -- a round from v is one from k successors on
      shift : (p k v : ℕ) → iter m C x p v ≡ v → iter m C x p (iter m C x k v) ≡ iter m C x k v
      shift p k v e =
          let s : p + k ≡ k + p = omega arith in
          sym (iter_add m C x p k v) ∙ ap (λ (n : ℕ). iter m C x n v) s ∙ iter_add m C x k p v ∙ ap (iter m C x k) e
