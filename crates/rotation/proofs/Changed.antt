-- A worker that a better stable placement moves has a successor that it moves too, so such a change needs a rotation.
use Rattle.std.proofs.Common.{◌≡◌, ℕ, zero, suc, ◌+◌, ◌-◌, ◌<◌, ◌≤◌, true, false, ◌⊎◌, Some, sym, refl, ap, ◌∙◌, inl, inr, arith}
use mathlib.Core.Path.{fun_ext}
use Rattle.std.proofs.lemmas.Bool.{cases_eq, cases_lt, cases_Bool, eq-eqb, eqb-true}
use Rattle.std.proofs.lemmas.Bool.Decides.{nat_tests}
use Rattle.fleet.specs.Sets.{Set, Within, Workers, union, insert, singleton, size}
use Rattle.fleet.specs.Market.{Market, Placement, rank, On, staff, depth}
use Rattle.fleet.proofs.Sizes.{same_at, false_since, search_below, size_within, size_insert, pigeonhole}
use Rattle.fleet.proofs.Ranks.{rank_inj}
use Rattle.policy.specs.Choice.{Policy}
use Rattle.policy.specs.Choose.{path_independent}
use Rattle.matching.specs.Stable.{Given, Stable, AllLike, wants}
use Rattle.matching.specs.Stepping.{successor}
use Rattle.rotation.specs.Rotation.{later, OnRotation}
use Rattle.matching.proofs.Facts.{on_small, placed_same, staff_workers, wants_back}
use Rattle.matching.proofs.Polarity.{serves_from_liked}
use Rattle.matching.proofs.Counts.{same_sizes, same_none}
use Rattle.rotation.proofs.Steps.{Steps, Displaces, step_exists, successor_exists, next, next_is}
use Rattle.rotation.proofs.Later.{iter, iter_add, later_suc}

module _ {m : Market} {C : Policy} (given : Given m C) {x y : Placement} (sx : Stable m C x) (sy : Stable m C y) (like : AllLike m C y x) where
  -- and is placed, since the same workers are
  changed_on : (w : ℕ) → (x w ≡ y w → ⊥) → On (m.list w) (y w)
  changed_on w n = go (sy.listed w)
    where
      go : (y w ≡ 255) ⊎ On (m.list w) (y w) → On (m.list w) (y w)
      go (inl e) = absurd (n ((same_none given sx sy like w).1 e ∙ sym e))
      go (inr o) = o

  changed_small : (w : ℕ) → (x w ≡ y w → ⊥) → w < 64
  changed_small w n = on_small given.sound w (y w) (changed_on w n)

  -- a changed worker is worse off
  pub changed_worse : (w : ℕ) → (x w ≡ y w → ⊥) → depth m x w < depth m y w
  changed_worse w n =
      let k : depth m x w ≡ depth m y w → ⊥ = λ e. n (placed_same sx sy w e) in
      omega (arith, serves_from_liked given sx sy like w)

  own_wanted : (w : ℕ) → On (m.list w) (y w) → wants C y w (y w) ≡ true
  own_wanted w o =
      let e : insert (staff y (y w)) w ≡ staff y (y w) = fun_ext (λ v. grind (arith, nat_tests)) in
      same_at (ap (C (y w)) e ∙ sy.acceptable (y w) (given.sound.listed_below w (y w) o)) w ∙ eq-eqb (y w) (y w) refl

  -- the worker's new tenant wanted it before, so it has a step, and one that comes no later
  changed_step : (w : ℕ) → (x w ≡ y w → ⊥) → (g : ℕ) × Steps m C x w g × (rank (m.list w) g ≤ depth m y w)
  changed_step w n =
      let o = changed_on w n in
      let l = given.sound.listed_below w (y w) o in
      step_exists m C x w (y w) o (changed_worse w n)
      (wants_back given x y w (y w) o (staff_workers given sx (y w) l) (staff_workers given sy (y w) l) (like (y w) l) (own_wanted w o))

  module _ (w g : ℕ) (s : Steps m C x w g) (before : rank (m.list w) g ≤ depth m y w) where
    everyone : Set
    everyone = union (union (staff y g) (staff x g)) (singleton w)

    tenant : g < m.tenants
    tenant = given.sound.listed_below w g s.on

    everyone_workers : Workers everyone
    unfolding everyone
    everyone_workers v h =
        let a = staff_workers given sx g tenant v in
        let b = staff_workers given sy g tenant v in
        let d = on_small given.sound w g s.on in
        grind (arith, nat_tests)

    old_in_everyone : Within (insert (staff x g) w) everyone
    unfolding everyone
    old_in_everyone v h = grind arith

    -- at y, g takes w only if it has w
    taken_own : C g (insert (staff y g) w) w ≡ true → staff y g w ≡ true
    taken_own h = go (cases_lt (rank (m.list w) g) (depth m y w))
      where
        go : (rank (m.list w) g < depth m y w) ⊎ (depth m y w ≤ rank (m.list w) g) → staff y g w ≡ true
        go (inl l) = let z = sy.unblocked w g s.on l in absurd (grind arith)
        go (inr l) = eq-eqb (y w) g (sym (rank_inj (m.list w) g (y w) s.on (omega arith)))

    -- out of everyone, g chooses its workers in y
    everyone_chosen : C g everyone ≡ staff y g
    unfolding everyone
    everyone_chosen =
        let p = path_independent (given.lawful g) (union (staff y g) (staff x g)) (singleton w) everyone_workers in
        let q : C g (insert (staff y g) w) ≡ C g everyone = ap (λ (F : Set). C g (union F (singleton w))) (sym (like g tenant)) ∙ p in
        let small : Workers (insert (staff y g) w) = λ v h. everyone_workers v (grind arith) in
        let i = (given.lawful g).inside (insert (staff y g) w) small in
        let r = (given.lawful g).consistent (insert (staff y g) w) (staff y g) small (λ v h. grind arith) (λ v h. at v h (cases_eq v w) (i v h)) in
        sym q ∙ sym r ∙ sy.acceptable g tenant
      where
        at : (v : ℕ) → C g (insert (staff y g) w) v ≡ true → (v ≡ w) ⊎ (v ≡ w → ⊥) → insert (staff y g) w v ≡ true → staff y g v ≡ true
        at v h (inl e) i = rw e (taken_own (rw e at h))
        at v h (inr e) i = grind (arith, nat_tests)

    displaced_changed : (v : ℕ) → Displaces m C x w g v → x v ≡ y v → ⊥
    unfolding everyone
    displaced_changed v k e =
        let i : C g everyone v ≡ true = same_at everyone_chosen v ∙ eq-eqb (y v) g (sym e ∙ k.works) in
        let j = (given.lawful g).substitutable everyone (insert (staff x g) w) everyone_workers old_in_everyone v i (let z = k.works in grind (arith, nat_tests)) in
        let o = k.out in
        grind arith

    apart : staff x g w ≡ false
    apart = false_since (staff x g w) (λ h.
        let e : x w ≡ g = eqb-true (x w) g h in
        let b : rank (m.list w) g < rank (m.list w) g = rw e at s.down in
        omega arith)

    -- g has as many workers in y as in x, so it does not take w on top of all it has
    someone_out : (v : ℕ) × Displaces m C x w g v
    someone_out = go (search_below (λ v. (x v ≡ g) × (C g (insert (staff x g) w) v ≡ false)) (λ v. x v ≡ g → C g (insert (staff x g) w) v ≡ true) dec 64)
      where
        dec : (v : ℕ) → ((x v ≡ g) × (C g (insert (staff x g) w) v ≡ false)) ⊎ (x v ≡ g → C g (insert (staff x g) w) v ≡ true)
        dec v = elim (cases_eq (x v) g) [
          | inr n ↦ inr (λ e. absurd (n e))
          | inl e ↦ elim (cases_Bool (C g (insert (staff x g) w) v)) [ inl f ↦ inr (λ _. f) | inr f ↦ inl (e, f) ]
        ]

        go : ((v : ℕ) × (v < 64) × ((x v ≡ g) × (C g (insert (staff x g) w) v ≡ false))) ⊎ ((v : ℕ) → v < 64 → x v ≡ g → C g (insert (staff x g) w) v ≡ true) →
            (v : ℕ) × Displaces m C x w g v
        go (inl r) = (r.0, record { steps = s; works = r.2.0; out = r.2.1; small = r.1 })
        go (inr f) =
            absurd (omega (
              arith,
              size_within (insert (staff x g) w) (C g (insert (staff x g) w)) (λ v h. at v (cases_eq v w) h),
              size_insert (staff x g) w (on_small given.sound w g s.on) apart,
              (given.lawful g).monotone everyone (insert (staff x g) w) everyone_workers old_in_everyone,
              ap size everyone_chosen,
              same_sizes given sx sy like g tenant,
            ))
          where
            at : (v : ℕ) → (v ≡ w) ⊎ (v ≡ w → ⊥) → insert (staff x g) w v ≡ true → C g (insert (staff x g) w) v ≡ true
            at v (inl e) h = rw e s.wanted
            at v (inr n) h = f v (everyone_workers v (old_in_everyone v h)) (grind (arith, nat_tests))

  -- a changed worker displaces one that is changed too, where it steps to no later than where it ends
  pub changed : (w : ℕ) → (x w ≡ y w → ⊥) →
      (g : ℕ) × (v : ℕ) × Displaces m C x w g v × (successor m C x w ≡ Some v) × (rank (m.list w) g ≤ depth m y w) × (x v ≡ y v → ⊥)
  changed w n =
      let r = changed_step w n in
      let g = r.0 in
      let o = someone_out w g r.1 r.2 in
      let f = successor_exists m C x w o.1 in
      (g, f.0, f.2, f.1, r.2, displaced_changed w g r.1 r.2 f.0 f.2)

  -- so all that follow a changed worker are changed
  pub changed_iter : (w : ℕ) → (x w ≡ y w → ⊥) → (n : ℕ) → (x (iter m C x n w) ≡ y (iter m C x n w) → ⊥) × (later m C x n w ≡ Some (iter m C x n w))
  changed_iter w c zero = (c, refl)
  changed_iter w c (suc n) =
      let r = changed_iter w c n in
      let k = changed (iter m C x n w) r.0 in
      let i : next m C x (iter m C x n w) ≡ k.1 = next_is m C x (iter m C x n w) k.1 k.3 in
      ((rw i k.5), later_suc m C x n w (iter m C x n w) (Some (iter m C x (suc n) w)) r.1 (k.3 ∙ ap Some (sym i)))

  -- the successors of a changed worker never stop, so one of them comes twice
  pub changed_rotation : (w : ℕ) → (x w ≡ y w → ⊥) → (v : ℕ) × OnRotation m C x v × (x v ≡ y v → ⊥)
  changed_rotation w c =
      let (i, j, l, b, e) = pigeonhole 64 (λ n. iter m C x n w) (λ n l. changed_small (iter m C x n w) (changed_iter w c n).0) in
      let v = iter m C x i w in
      let z : (j - i) + i ≡ j = omega arith in
      let again : iter m C x (j - i) v ≡ v = sym (iter_add m C x (j - i) i w) ∙ ap (λ (n : ℕ). iter m C x n w) z ∙ sym e in
      let d = (changed_iter w c i).0 in
      (v, record { period = j - i; some_steps = omega arith; again = (changed_iter v d (j - i)).1 ∙ ap Some again }, d)

  -- some worker is changed, or none is
  pub some_change : ((w : ℕ) × (x w ≡ y w → ⊥)) ⊎ ((w : ℕ) → x w ≡ y w)
  some_change = go (search_below (λ w. x w ≡ y w → ⊥) (λ w. x w ≡ y w) (λ w. elim (cases_eq (x w) (y w)) [ inl e ↦ inr e | inr n ↦ inl n ]) 64)
    where
      go : ((w : ℕ) × (w < 64) × (x w ≡ y w → ⊥)) ⊎ ((w : ℕ) → w < 64 → x w ≡ y w) → ((w : ℕ) × (x w ≡ y w → ⊥)) ⊎ ((w : ℕ) → x w ≡ y w)
      go (inl r) = inl (r.0, r.2)
      go (inr f) = inr (λ w. elim (cases_eq (x w) (y w)) [ inl e ↦ e | inr n ↦ f w (changed_small w n) ])
