-- A tenant keeps as many workers as it has when one comes, so at a stable placement a step puts at most one out.
use Rattle.std.proofs.Common.{◌≡◌, ℕ, ◌<◌, ◌≤◌, true, false, Some, subst, inl, inr, arith}
use Rattle.std.proofs.lemmas.Bool.{cases_eq, and_parts, ltb-true, eqb-true, not-true, both_ways}
use Rattle.std.proofs.lemmas.Bool.Decides.{nat_tests}
use Rattle.fleet.specs.Sets.{Set, Within, Workers, insert, minus, singleton, size}
use Rattle.fleet.specs.Market.{Market, Sound, Placement, rank, On, staff, depth}
use Rattle.fleet.proofs.Sizes.{false_since, size_within, size_insert, size_remove}
use Rattle.policy.specs.Choice.{Policy}
use Rattle.matching.specs.Stable.{Given, Stable, wants}
use Rattle.matching.specs.Stepping.{candidate, step, put_out}
use Rattle.matching.proofs.Facts.{on_small, staff_workers}
use Rattle.matching.proofs.Firsts.{first_some}

module _ {m : Market} {C : Policy} (given : Given m C) {x : Placement} (st : Stable m C x) (w t : ℕ) (e : step m C x w ≡ Some t) where
  on : On (m.list w) t
  on = (first_some (candidate m C x w) (m.list w) t e).0

  down : depth m x w < rank (m.list w) t
  down = ltb-true _ _ (and_parts _ (wants C x w t) (first_some (candidate m C x w) (m.list w) t e).1).0

  rented : t < m.tenants
  rented = given.sound.listed_below w t on

  small : Workers (insert (staff x t) w)
  small v h = let a = staff_workers given st t rented v in let b = on_small given.sound w t on in grind (arith, nat_tests)

  new : staff x t w ≡ false
  new = false_since (staff x t w) (λ h. let q : x w ≡ t = eqb-true (x w) t h in let d : rank (m.list w) t < rank (m.list w) t = rw q at down in omega arith)

  -- the tenant chooses as many as it has
  enough : size (staff x t) ≤ size (C t (insert (staff x t) w))
  enough = rw (st.acceptable t rented) at ((given.lawful t).monotone (insert (staff x t) w) (staff x t) small (λ v h. grind arith))

  pub one_out : (u v : ℕ) → put_out C x t w u ≡ true → put_out C x t w v ≡ true → u ≡ v
  one_out u v h k = elim (cases_eq u v) [
    | inl q ↦ q
    | inr n ↦ absurd (two n)
  ]
    where
      rest : Set
      rest = minus (minus (insert (staff x t) w) (singleton u)) (singleton v)

      two : (u ≡ v → ⊥) → ⊥
      two n =
          let a : C t (insert (staff x t) w) u ≡ false = not-true _ (and_parts (staff x t u) _ h).1 in
          let b : C t (insert (staff x t) w) v ≡ false = not-true _ (and_parts (staff x t v) _ k).1 in
          let hu = (and_parts (staff x t u) _ h).0 in
          let hv = (and_parts (staff x t v) _ k).0 in
          let inside : Within (C t (insert (staff x t) w)) rest =
          λ z c. (let i = (given.lawful t).inside (insert (staff x t) w) small z c in
          let nu : z ≡ u → ⊥ = λ q. both_ways (C t (insert (staff x t) w) u) a (subst (λ (y : ℕ). C t (insert (staff x t) w) y ≡ true) q c) in
          let nv : z ≡ v → ⊥ = λ q. both_ways (C t (insert (staff x t) w) v) b (subst (λ (y : ℕ). C t (insert (staff x t) w) y ≡ true) q c) in
          grind (arith, nat_tests)) in
          omega (
            arith,
            enough,
            size_within (C t (insert (staff x t) w)) rest inside,
            size_insert (staff x t) w (on_small given.sound w t on) new,
            size_remove (insert (staff x t) w) u (small u (grind arith)) (grind arith),
            size_remove (minus (insert (staff x t) w) (singleton u)) v (small v (grind arith)) (grind (arith, nat_tests)),
          )

-- only workers step, and only to tenants
pub step_range : {m : Market} → Sound m → (C : Policy) (x : Placement) (w t : ℕ) → step m C x w ≡ Some t → (w < 64) × (t < 16)
step_range {m} sound C x w t e =
    let on = (first_some (candidate m C x w) (m.list w) t e).0 in
    (on_small sound w t on, omega (arith, sound.listed_below w t on, sound.few_tenants))
