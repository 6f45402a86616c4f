-- What `step` and `successor` mean: the first tenant further down that wants the worker, and whom it lets go.
use Rattle.std.proofs.Common.{◌≡◌, ℕ, ◌<◌, ◌≤◌, true, false, Some, None, Option, sym, refl, subst, arith}
use Rattle.std.proofs.lemmas.Bool.Decides.{nat_tests}
use Rattle.fleet.specs.Sets.{insert, lowest}
use Rattle.fleet.specs.Market.{Market, Placement, rank, On, staff, depth}
use Rattle.policy.specs.Choice.{Policy}
use Rattle.matching.specs.Stable.{wants}
use Rattle.matching.specs.Stepping.{candidate, step, put_out, successor}
use Rattle.rotation.specs.Rotation.{or_own, target}
use Rattle.fleet.proofs.First.{Some≢None, lowest_some, lowest_exists, lowest_is}
use Rattle.matching.proofs.Firsts.{first_some, first_exists, first_is}

-- w steps to g
pub record Steps (m : Market) (C : Policy) (x : Placement) (w g : ℕ) : Type 0 where
  pub on : On (m.list w) g
  pub down : depth m x w < rank (m.list w) g
  pub wanted : wants C x w g ≡ true
  pub first : (t : ℕ) → depth m x w < rank (m.list w) t → rank (m.list w) t < rank (m.list w) g → wants C x w t ≡ false

-- w steps to g, which lets v go for it
pub record Displaces (m : Market) (C : Policy) (x : Placement) (w g v : ℕ) : Type 0 where
  pub steps : Steps m C x w g
  pub works : x v ≡ g
  pub out : C g (insert (staff x g) w) v ≡ false
  pub small : v < 64

module _ (m : Market) (C : Policy) (x : Placement) (w : ℕ) where
  pub step_some : (g : ℕ) → step m C x w ≡ Some g → Steps m C x w g
  step_some g e =
      let r = first_some (candidate m C x w) (m.list w) g e in
      let k = r.1 in
      record { on = r.0; down = grind (arith, nat_tests); wanted = grind arith; first = λ t a b. let z = r.2 t b in grind (arith, nat_tests) }

  pub step_is : {g : ℕ} → Steps m C x w g → step m C x w ≡ Some g
  step_is {g} s =
      let a = s.down in
      let b = s.wanted in
      first_is (candidate m C x w) (m.list w) g s.on (grind (arith, nat_tests)) (λ t l. let f = s.first t in grind (arith, nat_tests))

  pub step_exists : (t : ℕ) → On (m.list w) t → depth m x w < rank (m.list w) t → wants C x w t ≡ true →
      (g : ℕ) × Steps m C x w g × (rank (m.list w) g ≤ rank (m.list w) t)
  step_exists t o a h =
      let r = first_exists (candidate m C x w) (m.list w) t o (grind (arith, nat_tests)) in
      (r.0, step_some r.0 r.1, r.2)

  pub target_is : (g : ℕ) → step m C x w ≡ Some g → target m C x w ≡ g
  unfolding target
  target_is g e = rw (e, target)

  pub successor_some : (v : ℕ) → successor m C x w ≡ Some v → Displaces m C x w (target m C x w) v
  successor_some v e = go (step m C x w) refl
    where
      go : (o : Option ℕ) → step m C x w ≡ o → Displaces m C x w (target m C x w) v
      go None h = absurd (Some≢None (sym (rw (h, successor) at e)))
      go (Some g) h =
          let l : lowest 64 (put_out C x g w) ≡ Some v = rw (h, successor) at e in
          let r = lowest_some 64 (put_out C x g w) v l in
          let p = r.0 in
          rw (target_is g h) (record { steps = step_some g h; works = grind (arith, nat_tests); out = grind (arith, nat_tests); small = r.1 })

  -- the successor is the one worker that is put out
  pub successor_is : {g v : ℕ} → Displaces m C x w g v → ((u : ℕ) → x u ≡ g → C g (insert (staff x g) w) u ≡ false → u ≡ v) → successor m C x w ≡ Some v
  successor_is {g} {v} k only =
      let e = step_is k.steps in
      let o = k.out in
      let h = k.works in
      let l = lowest_is 64 (put_out C x g w) v (grind (arith, nat_tests)) k.small (λ u i. only u (grind (arith, nat_tests)) (grind (arith, nat_tests))) in
      rw (e, successor) l

  pub successor_exists : {g v : ℕ} → Displaces m C x w g v → (u : ℕ) × (successor m C x w ≡ Some u) × Displaces m C x w g u
  successor_exists {g} {v} k =
      let e = step_is k.steps in
      let o = k.out in
      let h = k.works in
      let l = lowest_exists 64 (put_out C x g w) v (grind (arith, nat_tests)) k.small in
      let f : successor m C x w ≡ Some l.0 = rw (e, successor) l.1 in
      (l.0, f, subst (λ (t : ℕ). Displaces m C x w t l.0) (target_is g e) (successor_some l.0 f))

  -- the successor as a number, w itself where there is none
  pub next : ℕ
  next = or_own w (successor m C x w)

  pub next_is : (v : ℕ) → successor m C x w ≡ Some v → next ≡ v
  unfolding next
  next_is v e = rw (e, next)
