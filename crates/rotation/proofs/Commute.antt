-- A rotation leaves the other rotations as they are, with the same steps, so the order of two does not matter.
use Rattle.std.proofs.Common.{◌≡◌, ℕ, zero, suc, ◌<◌, Bool, true, false, eqb, ◌⊎◌, Some, sym, refl, ap, ◌∙◌, inl, inr, arith}
use mathlib.Core.Path.{fun_ext}
use Rattle.std.proofs.lemmas.Bool.{cond-false, or_cases, eqb-true}
use Rattle.std.proofs.lemmas.Bool.Decides.{nat_tests}
use Rattle.fleet.specs.Sets.{Set, union, insert, minus}
use Rattle.fleet.specs.Market.{Market, Placement, rank, On, staff, depth}
use Rattle.fleet.proofs.Sizes.{same_at, false_since, size_insert}
use Rattle.policy.specs.Choice.{Policy}
use Rattle.matching.specs.Stable.{Given, Stable, wants}
use Rattle.matching.specs.Stepping.{step, successor}
use Rattle.rotation.specs.Rotation.{later, Cycle, target, after}
use Rattle.matching.proofs.Facts.{on_small, staff_workers, wants_back}
use Rattle.rotation.proofs.Tandem.{Tandem, tandem}
use Rattle.rotation.proofs.Steps.{Steps, Displaces, step_is, target_is, successor_is, next}
use Rattle.rotation.proofs.Later.{iter, later_suc}
use Rattle.rotation.proofs.Cycles.{has_successor, leads, stays, stays_iter, later_all, displaces, has_step}
use Rattle.rotation.proofs.Applied.{incoming, leaving, target_moves, tandem_at, after_liked, after_workers}

module _ {m : Market} {C : Policy} (given : Given m C) {x : Placement} (st : Stable m C x) {S : Set} (c : Cycle m C x S) where
  -- a worker w outside S that displaces v, outside S too, at g
  module _ {w g v : ℕ} (k : Displaces m C x w g v) (out-w : S w ≡ false) (out-v : S v ≡ false) where
    tenant : g < m.tenants
    tenant = given.sound.listed_below w g k.steps.on

    w_small : w < 64
    w_small = on_small given.sound w g k.steps.on

    w_apart : x w ≡ g → ⊥
    w_apart e = let b : rank (m.list w) g < rank (m.list w) g = rw e at k.steps.down in omega arith

    -- to those of S that come to g and leave it, w and v can be added
    one_more : Tandem (C g) (staff x g) (insert (incoming m C x S g) w) (insert (leaving x S g) v)
    one_more = record {
      small = λ u h. let a = T.small u in let l = w_small in grind (arith, nat_tests);
      content = T.content;
      apart = λ u h i. let a = T.apart u in let n = w_apart in grind (arith, nat_tests);
      own = λ u h. let i = k.works in grind (arith, nat_tests);
      enough = omega (
        arith,
        T.enough,
        size_insert (incoming m C x S g) w w_small (let o = out-w in grind arith),
        size_insert (leaving x S g) v k.small (let o = out-v in grind arith),
      );
      out = λ b h. at b (or_cases (leaving x S g b) (eqb b v) h);
    }
      where
        T : Tandem (C g) (staff x g) (incoming m C x S g) (leaving x S g)
        T = tandem_at given st c g tenant

        at : (b : ℕ) → (leaving x S g b ≡ true) ⊎ (eqb b v ≡ true) → (a : ℕ) × (insert (incoming m C x S g) w a ≡ true) × (C g (insert (staff x g) a) b ≡ false)
        at b (inl h) = let r = T.out b h in let i = r.1 in (r.0, grind arith, r.2)
        at b (inr h) = let e : b ≡ v = eqb-true b v h in (w, grind (arith, nat_tests), rw e k.out)

    same_choice : C g (insert (staff (after m C x S) g) w) ≡ minus (union (staff x g) (insert (incoming m C x S g) w)) (insert (leaving x S g) v)
    same_choice = ap (C g) same ∙ tandem (given.lawful g) one_more (leaving x S g) (λ u h. grind arith)
      where
        same : insert (staff (after m C x S) g) w ≡ minus (union (staff x g) (insert (incoming m C x S g) w)) (leaving x S g)
        same = fun_ext (λ u. let z = target_moves c u in let o = out-w in grind (arith, nat_tests))

    own_stays : after m C x S w ≡ x w
    own_stays = cond-false (S w) (target m C x w) (x w) out-w

    step_stays : Steps m C (after m C x S) w g
    step_stays = record {
      on = k.steps.on;
      down = rw own_stays k.steps.down;
      wanted = same_at same_choice w ∙ (let n = w_apart in let o = out-w in let o' = out-v in let i = k.works in grind (arith, nat_tests));
      first = λ t a b. false_since (wants C (after m C x S) w t) (λ h.
          let on-g = k.steps.on in
          let on : On (m.list w) t = omega arith in
          let l = given.sound.listed_below w t on in
          let a' : depth m x w < rank (m.list w) t = rw own_stays at a in
          let z = k.steps.first t a' b in
          let y = wants_back given x (after m C x S) w t on (staff_workers given st t l) (after_workers given st c t l) (after_liked given st c t l) h in
          grind arith);
    }

    displaces_stays : Displaces m C (after m C x S) w g v
    displaces_stays = record {
      steps = step_stays;
      works = cond-false (S v) (target m C x v) (x v) out-v ∙ k.works;
      out = same_at same_choice v ∙ grind (arith, nat_tests);
      small = k.small;
    }

    successor_stays : successor m C (after m C x S) w ≡ Some v
    successor_stays = successor_is m C (after m C x S) w displaces_stays (λ u e h.
        let i : minus (union (staff x g) (insert (incoming m C x S g) w)) (insert (leaving x S g) v) u ≡ false = sym (same_at same_choice u) ∙ h in
        let z = target_moves c u in
        grind (arith, nat_tests))

  -- a rotation R apart from S
  module _ {R : Set} (d : Cycle m C x R) (apart : (w : ℕ) → S w ≡ true → R w ≡ true → ⊥) where
    not_in : (w : ℕ) → R w ≡ true → S w ≡ false
    not_in w h = false_since (S w) (λ i. apart w i h)

    pub same_step : (w : ℕ) → R w ≡ true → step m C (after m C x S) w ≡ step m C x w
    same_step w h =
        step_is m C (after m C x S) w (step_stays (displaces d w h) (not_in w h) (not_in (next m C x w) (stays d w h))) ∙ sym (has_step d w h)

    pub same_successor : (w : ℕ) → R w ≡ true → successor m C (after m C x S) w ≡ successor m C x w
    same_successor w h = successor_stays (displaces d w h) (not_in w h) (not_in (next m C x w) (stays d w h)) ∙ sym (has_successor d w h)

    same_target : (w : ℕ) → R w ≡ true → target m C (after m C x S) w ≡ target m C x w
    same_target w h = target_is m C (after m C x S) w (target m C x w) (same_step w h ∙ has_step d w h)

    same_later : (n : ℕ) → later m C (after m C x S) n d.leader ≡ later m C x n d.leader
    same_later n = go n ∙ sym (later_all d d.leader (leads d) n)
      where
        go : (n : ℕ) → later m C (after m C x S) n d.leader ≡ Some (iter m C x n d.leader)
        go zero = refl
        go (suc n) =
            let u = iter m C x n d.leader in
            let h = stays_iter d d.leader (leads d) n in
            later_suc m C (after m C x S) n d.leader u (Some (next m C x u)) (go n)
            (successor_stays (displaces d u h) (not_in u h) (not_in (next m C x u) (stays d u h)))

    -- R is still a rotation, led by the same worker
    pub same_cycle : Cycle m C (after m C x S) R
    same_cycle = record {
      leader = d.leader;
      comes_again = record {
        period = d.comes_again.period;
        some_steps = d.comes_again.some_steps;
        again = same_later d.comes_again.period ∙ d.comes_again.again;
      };
      members = λ v. (
        λ h. let f = (d.members v).0 h in (f.0, same_later f.0 ∙ f.1),
        λ f. (d.members v).1 (f.0, sym (same_later f.0) ∙ f.1),
      );
    }

pub commute : {m : Market} {C : Policy} → Given m C → {x : Placement} → Stable m C x → {S R : Set} → Cycle m C x S → Cycle m C x R →
    ((w : ℕ) → S w ≡ true → R w ≡ true → ⊥) → after m C (after m C x S) R ≡ after m C (after m C x R) S
commute {m} {C} given {x} st {S} {R} c d apart = fun_ext (λ w. go w (S w) (R w) refl refl)
  where
    go : (w : ℕ) (a b : Bool) → S w ≡ a → R w ≡ b → after m C (after m C x S) R w ≡ after m C (after m C x R) S w
    go w true true e f = absurd (apart w e f)
    go w true false e f = rw (e, f) (sym (same_target given st d c (λ u i j. apart u j i) w e))
    go w false true e f = rw (e, f) (same_target given st c d apart w f)
    go w false false e f = rw (e, f)
