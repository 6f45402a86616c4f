-- A placement of the market's workers has no fault exactly where it is stable.
use Rattle.std.proofs.Common.{◌≡◌, ℕ, ◌<◌, ◌≤◌, true, false, ◌||◌, eqb, ltb, ◌⊎◌, ◌↔◌, List, Some, None, Option, sym, refl, ap, ◌∙◌, inl, inr, arith}
use Rattle.std.proofs.lemmas.Bool.{cases_lt, cases_Bool, both_ways, eqb-true, eq-eqb, and_parts, and_from, or_cases, or_left, or_right, lt-ltb, le-ltb, ltb-true, cond-true, cond-false}
use Rattle.std.proofs.lemmas.Bool.Decides.{nat_tests}
use Rattle.fleet.specs.Sets.{Workers, among, lowest}
use Rattle.fleet.specs.Market.{Market, Placement, On, staff}
use Rattle.fleet.proofs.Sizes.{set_ext, same_at, false_since}
use Rattle.fleet.proofs.First.{Some≢None, lowest_none, none_below}
use Rattle.fleet.proofs.Different.{among_on}
use Rattle.policy.specs.Choice.{Policy}
use Rattle.std.specs.List.{find}
use Rattle.matching.specs.Stable.{Given, Prefers, Stable, Acceptable, wants}
use Rattle.matching.specs.Checking.{placed_by, unlisted, unlisted_worker, unchosen, unacceptable_tenant, blocks, blocking_pair, fault_of, verdict}
use Rattle.matching.proofs.Facts.{on_worker, on_small}
use Rattle.matching.proofs.Firsts.{first_exists, first_some}
use Rattle.matching.proofs.Searches.{nothing_found, nothing_there}

parts : (a b c : Option (ℕ × ℕ)) → fault_of a b c ≡ (0, 0, 0) → (a ≡ None) × (b ≡ None) × (c ≡ None)
parts (Some p) b c e = absurd (let z : ◌≡◌ {A = ℕ} 30 0 = ap (λ (q : ℕ × ℕ × ℕ). q.0) e in omega arith)
parts None (Some p) c e = absurd (let z : ◌≡◌ {A = ℕ} 31 0 = ap (λ (q : ℕ × ℕ × ℕ). q.0) e in omega arith)
parts None None (Some p) e = absurd (let z : ◌≡◌ {A = ℕ} 32 0 = ap (λ (q : ℕ × ℕ × ℕ). q.0) e in omega arith)
parts None None None e = (refl, refl, refl)

-- nobody past the workers is placed
pub past_none : (m : Market) (bytes : List ℕ) (w : ℕ) → m.workers ≤ w → placed_by m bytes w ≡ 255
past_none m bytes w h = cond-false (ltb w m.workers) _ 255 (le-ltb w m.workers h)

-- a worker's tenant is none or listed exactly where it is no fault
listed_since : (m : Market) (x : Placement) (w : ℕ) → unlisted m x w ≡ None → (x w ≡ 255) ⊎ On (m.list w) (x w)
listed_since m x w e = go (cases_Bool (eqb (x w) 255 || among (m.list w) (x w)))
  where
    go : ((eqb (x w) 255 || among (m.list w) (x w)) ≡ true) ⊎ ((eqb (x w) 255 || among (m.list w) (x w)) ≡ false) → (x w ≡ 255) ⊎ On (m.list w) (x w)
    go (inr f) = absurd (Some≢None (sym (cond-false _ None (Some (x w)) f) ∙ e))
    go (inl t) = elim (or_cases (eqb (x w) 255) (among (m.list w) (x w)) t) [
      | inl h ↦ inl (eqb-true (x w) 255 h)
      | inr h ↦ inr (let k = among_on (m.list w) (x w) in grind (arith, nat_tests))
    ]

since_listed : (m : Market) (x : Placement) (w : ℕ) → (x w ≡ 255) ⊎ On (m.list w) (x w) → unlisted m x w ≡ None
since_listed m x w (inl e) = cond-true _ None (Some (x w)) (or_left (eqb (x w) 255) (among (m.list w) (x w)) (eq-eqb (x w) 255 e))
since_listed m x w (inr o) = cond-true _ None (Some (x w)) (or_right (eqb (x w) 255) (among (m.list w) (x w)) (let k = among_on (m.list w) (x w) in grind (arith, nat_tests)))

module _ {m : Market} {C : Policy} (given : Given m C) (x : Placement) where
  -- from no fault to stable
  module _ (past : (w : ℕ) → m.workers ≤ w → x w ≡ 255) (e : verdict m C x ≡ (0, 0, 0)) where
    none : (unlisted_worker m x ≡ None) × (unacceptable_tenant m C x ≡ None) × (blocking_pair m C x ≡ None)
    none = parts (unlisted_worker m x) (unacceptable_tenant m C x) (blocking_pair m C x) e

    listed : (w : ℕ) → (x w ≡ 255) ⊎ On (m.list w) (x w)
    listed w = elim (cases_lt w m.workers) [
      | inl l ↦ listed_since m x w (nothing_found (unlisted m x) m.workers none.0 w l)
      | inr l ↦ inl (past w l)
    ]

    small : (t : ℕ) → t < m.tenants → Workers (staff x t)
    small t l w h = elim (listed w) [
      | inl q ↦ absurd (omega (arith, eqb-true (x w) t h, given.sound.few_tenants))
      | inr o ↦ on_small given.sound w (x w) o
    ]

    acceptable : (t : ℕ) → t < m.tenants → Acceptable C x t
    acceptable t l = set_ext (C t (staff x t)) (staff x t) ((given.lawful t).inside (staff x t) (small t l)) (λ w h.
        let out = none_below 64 (unchosen C x t) (nothing_found (λ s. lowest 64 (unchosen C x s)) m.tenants none.1 t l) w (small t l w h) in
        grind arith)

    unblocked : (w t : ℕ) → On (m.list w) t → Prefers m x w t → wants C x w t ≡ false
    unblocked w t o p = false_since (wants C x w t) (λ h.
        let calm = nothing_found (λ v. find (blocks m C x v) (m.list v)) m.workers none.2 w (on_worker given.sound w t o) in
        let r = first_exists (blocks m C x w) (m.list w) t o (and_from _ _ (lt-ltb _ _ p) h) in
        Some≢None (sym r.1 ∙ calm))

    pub faultless_stable : Stable m C x
    faultless_stable = record { listed = listed; acceptable = acceptable; unblocked = unblocked }

  -- and back
  module _ (st : Stable m C x) where
    no_block : (w : ℕ) → find (blocks m C x w) (m.list w) ≡ None
    no_block w = go (find (blocks m C x w) (m.list w)) refl
      where
        go : (o : Option ℕ) → find (blocks m C x w) (m.list w) ≡ o → find (blocks m C x w) (m.list w) ≡ None
        go None e = e
        go (Some t) e =
            let r = first_some (blocks m C x w) (m.list w) t e in
            let b = and_parts _ (wants C x w t) r.1 in
            absurd (both_ways (wants C x w t) (st.unblocked w t r.0 (ltb-true _ _ b.0)) b.1)

    no_unchosen : (t : ℕ) → t < m.tenants → lowest 64 (unchosen C x t) ≡ None
    no_unchosen t l = lowest_none 64 (unchosen C x t) (λ w k. let e = same_at (st.acceptable t l) w in grind arith)

    pub stable_faultless : verdict m C x ≡ (0, 0, 0)
    stable_faultless =
        rw (
          nothing_there (unlisted m x) m.workers (λ w l. since_listed m x w (st.listed w)),
          nothing_there (λ t. lowest 64 (unchosen C x t)) m.tenants no_unchosen,
          nothing_there (λ w. find (blocks m C x w) (m.list w)) m.workers (λ w l. no_block w),
        )

-- the verdict says that the placement is stable exactly where it is
pub verdict_stable : {m : Market} {C : Policy} (given : Given m C) (x : Placement) → ((w : ℕ) → m.workers ≤ w → x w ≡ 255) → (answer : ℕ × ℕ × ℕ) →
    answer ≡ verdict m C x → (answer ≡ (0, 0, 0)) ↔ Stable m C x
verdict_stable given x past answer e = (λ h. faultless_stable given x past (sym e ∙ h), λ st. e ∙ stable_faultless given x st)
