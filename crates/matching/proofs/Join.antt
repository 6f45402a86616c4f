-- The join of two stable placements, each worker at the worse of its two places, is stable, and every tenant likes it as well as both.
use Rattle.std.proofs.Common.{◌≡◌, ℕ, ◌<◌, ◌≤◌, true, false, cond, ◌&&◌, eqb, leb, ◌⊎◌, ◌↔◌, sym, ◌∙◌, subst, inl, inr, arith}
use Rattle.std.proofs.lemmas.Bool.{cases_Bool, cases_eq, eqb-true, eq-eqb, ltb-true, lt-ltb, leb-true, le-leb, and_parts, and_from, or_left, or_right, cond-true, cond-false}
use Rattle.std.proofs.lemmas.Bool.Decides.{nat_tests}
use Rattle.fleet.specs.Sets.{Set, Within, Workers, union, insert, singleton, sum_below, size}
use Rattle.fleet.specs.Market.{Market, Placement, rank, On, staff, depth}
use Rattle.fleet.proofs.Sizes.{set_ext, same_at, false_since, size_within, size_same, size_staffs, sum_le, sum_back}
use Rattle.fleet.proofs.Ranks.{rank_inj}
use Rattle.policy.specs.Choice.{Policy}
use Rattle.policy.specs.Choose.{idempotent, path_independent}
use Rattle.matching.specs.Stable.{Given, Prefers, Stable, AllLike, join}
use Rattle.matching.proofs.Facts.{on_small, tenant_on, both_workers, chosen_stays}
use Rattle.matching.proofs.Polarity.{serves_from_liked, liked_from_serves}
use Rattle.matching.proofs.Counts.{placed, listed_placed, placed_workers, staff_grows, same_sizes, same_none}

module _ (m : Market) (x y : Placement) (w : ℕ) where
  pub join_cases : (join m x y w ≡ x w) ⊎ (join m x y w ≡ y w)
  join_cases = elim (cases_Bool (leb (depth m x w) (depth m y w))) [
    | inl e ↦ inr (cond-true _ (y w) (x w) e)
    | inr e ↦ inl (cond-false _ (y w) (x w) e)
  ]

  join_second : depth m x w ≤ depth m y w → join m x y w ≡ y w
  join_second l = cond-true _ (y w) (x w) (le-leb (depth m x w) (depth m y w) l)

  join_first : On (m.list w) (x w) → depth m y w ≤ depth m x w → join m x y w ≡ x w
  join_first o l = elim (cases_Bool (leb (depth m x w) (depth m y w))) [
    | inl e ↦ cond-true _ (y w) (x w) e ∙ sym (rank_inj (m.list w) (x w) (y w) o (omega (arith, leb-true (depth m x w) (depth m y w) e)))
    | inr e ↦ cond-false _ (y w) (x w) e
  ]

module _ {m : Market} {C : Policy} (given : Given m C) {x y : Placement} (sx : Stable m C x) (sy : Stable m C y) where
  -- what t chooses out of its workers in x and in y
  abbrev chosen : ℕ → Set
  chosen t = C t (union (staff x t) (staff y t))

  -- placed in both
  abbrev twice : Set
  twice w = placed m.tenants x w && placed m.tenants y w

  -- the join, of those who are placed in both
  abbrev narrow : Placement
  narrow w = cond (twice w) (join m x y w) 255

  small : (t : ℕ) → t < m.tenants → Workers (union (staff x t) (staff y t))
  small = both_workers given sx sy

  from_first : (t w : ℕ) → staff x t w ≡ true → union (staff x t) (staff y t) w ≡ true
  from_first t w i = or_left (staff x t w) (staff y t w) i

  from_second : (t w : ℕ) → staff y t w ≡ true → union (staff x t) (staff y t) w ≡ true
  from_second t w i = or_right (staff x t w) (staff y t w) i

  -- each chosen worker is placed in both, and t is the worse of its two places
  chosen_narrow : (t : ℕ) → t < m.tenants → Within (chosen t) (staff narrow t)
  chosen_narrow t l w h = go (cases_eq (x w) t)
    where
      rx : depth m x w ≤ rank (m.list w) t
      rx = chosen_stays given sx t (union (staff x t) (staff y t)) (small t l) (from_first t) w h

      ry : depth m y w ≤ rank (m.list w) t
      ry = chosen_stays given sy t (union (staff x t) (staff y t)) (small t l) (from_second t) w h

      done : On (m.list w) (x w) → On (m.list w) (y w) → join m x y w ≡ t → staff narrow t w ≡ true
      done ox oy e = eq-eqb (narrow w) t (cond-true (twice w) (join m x y w) 255 (and_from _ _ (listed_placed given x w ox) (listed_placed given y w oy)) ∙ e)

      go : (x w ≡ t) ⊎ (x w ≡ t → ⊥) → staff narrow t w ≡ true
      go (inl e) =
          let o = tenant_on given sx w (omega arith) in
          let r : depth m y w ≤ depth m x w = rw e ry in
          done o (omega arith) (join_first m x y w o r ∙ e)
      go (inr n) =
          let i = (given.lawful t).inside (union (staff x t) (staff y t)) (small t l) w h in
          let e : y w ≡ t = grind (arith, nat_tests) in
          let o = tenant_on given sy w (omega arith) in
          let r : depth m x w ≤ depth m y w = rw e rx in
          done (omega arith) o (join_second m x y w r ∙ e)

  narrow_twice : Within (placed m.tenants narrow) twice
  narrow_twice w h = elim (cases_Bool (twice w)) [
    | inl e ↦ e
    | inr e ↦ absurd (omega (arith, given.sound.few_tenants, cond-false (twice w) (join m x y w) 255 e, ltb-true (narrow w) m.tenants h))
  ]

  twice_first : Within twice (placed m.tenants x)
  twice_first w h = (and_parts (placed m.tenants x w) (placed m.tenants y w) h).0

  twice_second : Within twice (placed m.tenants y)
  twice_second w h = (and_parts (placed m.tenants x w) (placed m.tenants y w) h).1

  -- the sums, from the smallest: who is placed in both, in x or in y, what is chosen, who is placed in both
  first_le : sum_below m.tenants (λ t. size (staff x t)) ≤ sum_below m.tenants (λ t. size (chosen t))
  first_le = sum_le m.tenants (λ t. size (staff x t)) (λ t. size (chosen t)) (λ t l. staff_grows given sx t l (union (staff x t) (staff y t)) (small t l) (from_first t))

  second_le : sum_below m.tenants (λ t. size (staff y t)) ≤ sum_below m.tenants (λ t. size (chosen t))
  second_le = sum_le m.tenants (λ t. size (staff y t)) (λ t. size (chosen t)) (λ t l. staff_grows given sy t l (union (staff x t) (staff y t)) (small t l) (from_second t))

  chosen_le : (t : ℕ) → t < m.tenants → size (chosen t) ≤ size (staff narrow t)
  chosen_le t l = size_within (chosen t) (staff narrow t) (chosen_narrow t l)

  narrow_le : sum_below m.tenants (λ t. size (staff narrow t)) ≤ size twice
  narrow_le = omega (arith, size_staffs m.tenants narrow, size_within (placed m.tenants narrow) twice narrow_twice)

  sum_twice : sum_below m.tenants (λ t. size (chosen t)) ≤ size twice
  sum_twice = omega (arith, narrow_le, sum_le m.tenants (λ t. size (chosen t)) (λ t. size (staff narrow t)) chosen_le)

  -- so all are equal
  twice_is_first : twice ≡ placed m.tenants x
  twice_is_first =
      size_same twice (placed m.tenants x) (placed_workers given sx) twice_first (omega (arith, sum_twice, size_staffs m.tenants x, first_le))

  twice_is_second : twice ≡ placed m.tenants y
  twice_is_second =
      size_same twice (placed m.tenants y) (placed_workers given sy) twice_second (omega (arith, sum_twice, size_staffs m.tenants y, second_le))

  join_twice : (w : ℕ) → join m x y w < m.tenants → twice w ≡ true
  join_twice w l = elim (join_cases m x y w) [
    | inl e ↦ same_at twice_is_first w ∙ lt-ltb (x w) m.tenants (omega arith)
    | inr e ↦ same_at twice_is_second w ∙ lt-ltb (y w) m.tenants (omega arith)
  ]

  narrow_workers : (t : ℕ) → t < m.tenants → Workers (staff narrow t)
  narrow_workers t l w h =
      let e : narrow w ≡ t = eqb-true (narrow w) t h in
      placed_workers given sx w (twice_first w (narrow_twice w (lt-ltb (narrow w) m.tenants (omega arith))))

  chosen_is_narrow : (t : ℕ) → t < m.tenants → chosen t ≡ staff narrow t
  chosen_is_narrow t l =
      size_same (chosen t) (staff narrow t) (narrow_workers t l) (chosen_narrow t l)
      (sum_back m.tenants (λ s. size (chosen s)) (λ s. size (staff narrow s)) chosen_le
      (omega (arith, narrow_le, size_within twice (placed m.tenants x) twice_first, size_staffs m.tenants x, first_le)) t l)

  narrow_is_join : (t : ℕ) → t < m.tenants → staff narrow t ≡ staff (join m x y) t
  narrow_is_join t l = set_ext (staff narrow t) (staff (join m x y) t)
      (λ w h.
      let e : narrow w ≡ t = eqb-true (narrow w) t h in
      let b : twice w ≡ true = narrow_twice w (lt-ltb (narrow w) m.tenants (omega arith)) in
      eq-eqb (join m x y w) t (sym (cond-true (twice w) (join m x y w) 255 b) ∙ e))
      (λ w h.
      let e : join m x y w ≡ t = eqb-true (join m x y w) t h in
      eq-eqb (narrow w) t (cond-true (twice w) (join m x y w) 255 (join_twice w (omega arith)) ∙ e))

  -- each tenant has in the join what it chooses out of both
  pub join_staff : (t : ℕ) → t < m.tenants → C t (union (staff x t) (staff y t)) ≡ staff (join m x y) t
  join_staff t l = chosen_is_narrow t l ∙ narrow_is_join t l

  join_acceptable : (t : ℕ) → t < m.tenants → C t (staff (join m x y) t) ≡ staff (join m x y) t
  join_acceptable t l = subst (λ (A : Set). C t A ≡ A) (join_staff t l) (idempotent (given.lawful t) (union (staff x t) (staff y t)) (small t l))

  join_unblocked : (w t : ℕ) → On (m.list w) t → Prefers m (join m x y) w t → C t (insert (staff (join m x y) t) w) w ≡ false
  join_unblocked w t o p = false_since (C t (insert (staff (join m x y) t) w) w) (λ h.
      let i : C t all w ≡ true = sym (same_at same w) ∙ h in
      let rx = chosen_stays given sx t all all_small (λ v a. or_left _ (eqb v w) (from_first t v a)) w i in
      let ry = chosen_stays given sy t all all_small (λ v a. or_left _ (eqb v w) (from_second t v a)) w i in
      elim (join_cases m x y w) [
        | inl q ↦ (let p' : rank (m.list w) t < depth m x w = subst (λ s. rank (m.list w) t < rank (m.list w) s) q p in omega arith)
        | inr q ↦ (let p' : rank (m.list w) t < depth m y w = subst (λ s. rank (m.list w) t < rank (m.list w) s) q p in omega arith)
      ])
    where
      all : Set
      all = insert (union (staff x t) (staff y t)) w

      l : t < m.tenants
      l = given.sound.listed_below w t o

      all_small : Workers all
      all_small v h = let a = small t l v in let b = on_small given.sound w t o in grind (arith, nat_tests)

      same : C t (insert (staff (join m x y) t) w) ≡ C t all
      same = subst (λ (A : Set). C t (insert A w) ≡ C t all) (join_staff t l) (path_independent (given.lawful t) (union (staff x t) (staff y t)) (singleton w) all_small)

  join_listed : (w : ℕ) → (join m x y w ≡ 255) ⊎ On (m.list w) (join m x y w)
  join_listed w = elim (join_cases m x y w) [
    | inl q ↦ subst (λ s. (s ≡ 255) ⊎ On (m.list w) s) (sym q) (sx.listed w)
    | inr q ↦ subst (λ s. (s ≡ 255) ⊎ On (m.list w) s) (sym q) (sy.listed w)
  ]

  pub join_stable : Stable m C (join m x y)
  join_stable = record { listed = join_listed; acceptable = join_acceptable; unblocked = join_unblocked }

  -- out of its workers in the join and some of those in x and y, a tenant chooses those in the join
  join_over : (t : ℕ) → t < m.tenants → (A : Set) → Within A (union (staff x t) (staff y t)) → C t (union (staff (join m x y) t) A) ≡ staff (join m x y) t
  join_over t l A f =
      subst (λ (B : Set). C t (union B A) ≡ B) (join_staff t l)
      ((given.lawful t).consistent (union (staff x t) (staff y t)) (union (chosen t) A) (small t l)
      (λ w h. let i = (given.lawful t).inside (union (staff x t) (staff y t)) (small t l) w in let j = f w in grind arith)
      (λ w h. or_left (chosen t w) (A w) h))

  pub join_first_liked : AllLike m C (join m x y) x
  join_first_liked t l = join_over t l (staff x t) (from_first t)

  pub join_second_liked : AllLike m C (join m x y) y
  join_second_liked t l = join_over t l (staff y t) (from_second t)

  -- both agree with their join, so they agree
  pub any_sizes : (t : ℕ) → t < m.tenants → size (staff x t) ≡ size (staff y t)
  any_sizes t l = same_sizes given sx join_stable join_first_liked t l ∙ sym (same_sizes given sy join_stable join_second_liked t l)

  pub any_none : (w : ℕ) → (x w ≡ 255) ↔ (y w ≡ 255)
  any_none w =
      let a = same_none given sx join_stable join_first_liked w in
      let b = same_none given sy join_stable join_second_liked w in
      (λ e. b.1 (a.0 e), λ e. a.1 (b.0 e))

  -- what is liked as well as both is liked as well as the join
  pub join_least : {z : Placement} → Stable m C z → AllLike m C z x → AllLike m C z y → AllLike m C z (join m x y)
  join_least {z} sz first second = liked_from_serves given join_stable sz (λ w. elim (join_cases m x y w) [
    | inl q ↦ rw q (serves_from_liked given sx sz first w)
    | inr q ↦ rw q (serves_from_liked given sy sz second w)
  ])
