-- One round of settling keeps what the rounds before it achieved; a round that rejects nobody is stable and best for the workers.
use Rattle.std.proofs.Common.{◌≡◌, ℕ, suc, ◌+◌, ◌<◌, ◌≤◌, true, false, cond, eqb, ◌⊎◌, List, length, get_or, sym, refl, ap, ◌∙◌, subst, inl, inr, arith}
use Rattle.std.proofs.lemmas.List.{get_or_past}
use Rattle.std.proofs.lemmas.Bool.{cases_lt, cases_eq, cases_Bool, eqb-true, eq-eqb, or_left, or_right, cond-true, cond-false}
use Rattle.std.proofs.lemmas.Bool.Decides.{nat_tests}
use Rattle.fleet.specs.Sets.{Set, Within, Workers, union, insert}
use Rattle.fleet.specs.Market.{Market, Placement, rank, On, staff, depth}
use Rattle.fleet.proofs.Sizes.{set_ext, same_at}
use Rattle.fleet.proofs.Ranks.{rank_le, rank_inj, rank_getD, getD_rank, on_getD}
use Rattle.policy.specs.Choice.{Policy}
use Rattle.policy.specs.Choose.{chosen_is, still_refused}
use Rattle.matching.specs.Stable.{Given, Prefers, Stable, WorkerBest}
use Rattle.matching.specs.Settling.{stands, rejected, next_round}
use Rattle.matching.proofs.Tabulate.{get_d_tabulate, tabulate_past}
use Rattle.matching.proofs.Facts.{on_small, staff_workers, chosen_stays}

-- what holds before and after every round
pub record Progress (m : Market) (C : Policy) (closed : List ℕ) : Type 0 where
  pub short : (w : ℕ) → get_or closed w 0 ≤ length (m.list w)
  -- no stable placement uses a closed pair
  pub unused : (y : Placement) → Stable m C y → (w : ℕ) → get_or closed w 0 ≤ depth m y w
  -- the tenant of a closed pair would still refuse the worker
  pub refuses : (w p : ℕ) → p < get_or closed w 0 → C (get_or (m.list w) p 255) (insert (staff (stands m closed) (get_or (m.list w) p 255)) w) w ≡ false

-- where a worker stands is on its list
pub stands_listed : (m : Market) (closed : List ℕ) (w : ℕ) → (stands m closed w ≡ 255) ⊎ On (m.list w) (stands m closed w)
stands_listed m closed w = elim (cases_lt (get_or closed w 0) (length (m.list w))) [
  | inl q ↦ inr (on_getD (m.list w) (get_or closed w 0) 255 q)
  | inr q ↦ inl (get_or_past (m.list w) (get_or closed w 0) 255 q)
]

stands_rank : (m : Market) (closed : List ℕ) (w : ℕ) → depth m (stands m closed) w ≤ get_or closed w 0
stands_rank m closed w = elim (cases_lt (get_or closed w 0) (length (m.list w))) [
  | inl q ↦ rank_getD (m.list w) (get_or closed w 0) 255 q
  | inr q ↦ omega (arith, rank_le (m.list w) (stands m closed w))
]

module _ (m : Market) (C : Policy) (closed : List ℕ) (w : ℕ) where
  pub rejected_short : rejected m C closed w ≡ true → get_or closed w 0 < length (m.list w)
  rejected_short h = grind (arith, nat_tests)

  rejected_out : rejected m C closed w ≡ true → C (stands m closed w) (staff (stands m closed) (stands m closed w)) w ≡ false
  rejected_out h = grind (arith, nat_tests)

  -- a worker whose pairs are all closed is not rejected
  pub spent_stays : length (m.list w) ≤ get_or closed w 0 → rejected m C closed w ≡ false
  spent_stays h = grind (arith, nat_tests)

module _ {m : Market} {C : Policy} (given : Given m C) where
  stands_short : (closed : List ℕ) (w t : ℕ) → t < m.tenants → stands m closed w ≡ t → get_or closed w 0 < length (m.list w)
  stands_short closed w t l e = elim (cases_lt (get_or closed w 0) (length (m.list w))) [
    | inl q ↦ q
    | inr q ↦ absurd (omega (arith, given.sound.few_tenants, get_or_past (m.list w) (get_or closed w 0) 255 q))
  ]

  stands_workers : (closed : List ℕ) (t : ℕ) → t < m.tenants → Workers (staff (stands m closed) t)
  stands_workers closed t l w h =
      on_small given.sound w (stands m closed w) (on_getD (m.list w) (get_or closed w 0) 255 (stands_short closed w t l (eqb-true (stands m closed w) t h)))

  -- past the workers nobody is rejected
  pub past_stays : (closed : List ℕ) (w : ℕ) → m.workers ≤ w → rejected m C closed w ≡ false
  past_stays closed w q = spent_stays m C closed w (omega (arith, ap length (given.sound.past_empty w q)))

  module _ (closed : List ℕ) (short : (w : ℕ) → get_or closed w 0 ≤ length (m.list w)) where
    -- a round closes one pair of each rejected worker
    pub next_at : (w : ℕ) → get_or (next_round m C closed) w 0 ≡ get_or closed w 0 + cond (rejected m C closed w) 1 0
    next_at w = elim (cases_lt w 64) [
      | inl q ↦ get_d_tabulate 64 (λ v. get_or closed v 0 + cond (rejected m C closed v) 1 0) w 0 q
      | inr q ↦ (let past : m.workers ≤ w = omega (arith, given.sound.few_workers) in
          omega (
            arith,
            short w,
            ap length (given.sound.past_empty w past),
            cond-false {A = ℕ} (rejected m C closed w) 1 0 (past_stays closed w past),
            tabulate_past 64 (λ v. get_or closed v 0 + cond (rejected m C closed v) 1 0) w 0 q,
          ))
    ]

    next_kept : (w : ℕ) → rejected m C closed w ≡ false → get_or (next_round m C closed) w 0 ≡ get_or closed w 0
    next_kept w r = omega (arith, next_at w, cond-false {A = ℕ} (rejected m C closed w) 1 0 r)

    next_closed : (w : ℕ) → rejected m C closed w ≡ true → get_or (next_round m C closed) w 0 ≡ suc (get_or closed w 0)
    next_closed w r = omega (arith, next_at w, cond-true {A = ℕ} (rejected m C closed w) 1 0 r)

    pub next_short : (w : ℕ) → get_or (next_round m C closed) w 0 ≤ length (m.list w)
    next_short w = elim (cases_Bool (rejected m C closed w)) [
      | inl r ↦ omega (arith, next_closed w r, rejected_short m C closed w r)
      | inr r ↦ omega (arith, next_kept w r, short w)
    ]

  module _ (closed : List ℕ) (before : Progress m C closed) where
    -- no stable placement has a worker where it is rejected: its tenant would choose it out of more
    not_there : (y : Placement) → Stable m C y → (w : ℕ) → rejected m C closed w ≡ true → get_or closed w 0 ≡ depth m y w → ⊥
    not_there y sy w r e =
        let chosen : C t (union X Y) ≡ Y = chosen_is (given.lawful t) (union X Y) Y small (λ v i. or_right (X v) (Y v) i) own (sy.acceptable t l) in
        let i : C t X w ≡ true = (given.lawful t).substitutable (union X Y) X small (λ v i. or_left (X v) (Y v) i) w (same_at chosen w ∙ eq-eqb (y w) t there) (eq-eqb t t refl) in
        let o = rejected_out m C closed w r in
        grind arith
      where
        t : ℕ
        t = stands m closed w

        X : Set
        X = staff (stands m closed) t

        Y : Set
        Y = staff y t

        there : y w ≡ t
        there = sym (getD_rank (m.list w) (y w) 255 (omega (arith, rejected_short m C closed w r))) ∙ ap (λ k. get_or (m.list w) k 255) (sym e)

        l : t < m.tenants
        l = given.sound.listed_below w t (on_getD (m.list w) (get_or closed w 0) 255 (rejected_short m C closed w r))

        small : Workers (union X Y)
        small v h = let a = stands_workers closed t l v in let b = staff_workers given sy t l v in grind arith

        own : Within (C t (union X Y)) Y
        own v h = go (cases_eq (stands m closed v) t)
          where
            go : (stands m closed v ≡ t) ⊎ (stands m closed v ≡ t → ⊥) → Y v ≡ true
            go (inr n) = let i = (given.lawful t).inside (union X Y) small v h in grind (arith, nat_tests)
            go (inl s) =
                let a : rank (m.list v) t ≤ get_or closed v 0 = rw s at (stands_rank m closed v) in
                let b = before.unused y sy v in
                let d = chosen_stays given sy t (union X Y) small (λ u i. or_right (X u) (Y u) i) v h in
                let o = stands_short closed v t l s in
                eq-eqb (y v) t (sym (rank_inj (m.list v) t (y v) (omega arith) (omega arith)))

    next_unused : (y : Placement) → Stable m C y → (w : ℕ) → get_or (next_round m C closed) w 0 ≤ depth m y w
    next_unused y sy w = elim (cases_Bool (rejected m C closed w)) [
      | inl r ↦ (let n : get_or closed w 0 ≡ depth m y w → ⊥ = not_there y sy w r in omega (arith, next_closed closed before.short w r, before.unused y sy w))
      | inr r ↦ omega (arith, next_kept closed before.short w r, before.unused y sy w)
    ]

    -- who is chosen stays
    chosen_next : (t : ℕ) → t < m.tenants → Within (C t (staff (stands m closed) t)) (staff (stands m (next_round m C closed)) t)
    chosen_next t l w h =
        let i = (given.lawful t).inside (staff (stands m closed) t) (stands_workers closed t l) w h in
        let e : stands m closed w ≡ t = eqb-true (stands m closed w) t i in
        let h' : C (stands m closed w) (staff (stands m closed) (stands m closed w)) w ≡ true = rw e h in
        let kept : rejected m C closed w ≡ false = grind arith in
        eq-eqb (stands m (next_round m C closed) w) t (ap (λ k. get_or (m.list w) k 255) (next_kept closed before.short w kept) ∙ e)

    -- who is or was rejected at a place is refused there in this round
    refuses_now : (w p : ℕ) → p < get_or (next_round m C closed) w 0 → C (get_or (m.list w) p 255) (insert (staff (stands m closed) (get_or (m.list w) p 255)) w) w ≡ false
    refuses_now w p l = elim (cases_lt p (get_or closed w 0)) [
      | inl q ↦ before.refuses w p q
      | inr q ↦ elim (cases_Bool (rejected m C closed w)) [
        | inr r ↦ absurd (omega (arith, next_kept closed before.short w r))
        | inl r ↦
            (let e : get_or closed w 0 ≡ p = omega (arith, next_closed closed before.short w r) in
            let same : insert (staff (stands m closed) (stands m closed w)) w ≡ staff (stands m closed) (stands m closed w) =
            set_ext _ _ (λ v i. grind (arith, nat_tests)) (λ v i. or_left _ (eqb v w) i) in
            subst (λ k. C (get_or (m.list w) k 255) (insert (staff (stands m closed) (get_or (m.list w) k 255)) w) w ≡ false) e
            (rw same (rejected_out m C closed w r)))
      ]
    ]

    next_refuses : (w p : ℕ) → p < get_or (next_round m C closed) w 0
        → C (get_or (m.list w) p 255) (insert (staff (stands m (next_round m C closed)) (get_or (m.list w) p 255)) w) w ≡ false
    next_refuses w p l =
        let t = get_or (m.list w) p 255 in
        let o : On (m.list w) t = on_getD (m.list w) p 255 (omega (arith, next_short closed before.short w)) in
        let b = given.sound.listed_below w t o in
        still_refused (given.lawful t) (staff (stands m closed) t) (staff (stands m (next_round m C closed)) t) w
        (stands_workers closed t b) (stands_workers (next_round m C closed) t b) (on_small given.sound w t o) (chosen_next t b) (refuses_now w p l)

    pub next_progress : Progress m C (next_round m C closed)
    next_progress = record { short = next_short closed before.short; unused = next_unused; refuses = next_refuses }

    -- a round that rejects nobody
    module _ (calm : (w : ℕ) → rejected m C closed w ≡ false) where
      calm_acceptable : (t : ℕ) → t < m.tenants → C t (staff (stands m closed) t) ≡ staff (stands m closed) t
      calm_acceptable t l =
          set_ext (C t (staff (stands m closed) t)) (staff (stands m closed) t) ((given.lawful t).inside (staff (stands m closed) t) (stands_workers closed t l))
          (λ w h.
          let e : stands m closed w ≡ t = eqb-true (stands m closed w) t h in
          let s = stands_short closed w t l e in
          let k = calm w in
          let c : C (stands m closed w) (staff (stands m closed) (stands m closed w)) w ≡ true = grind (arith, nat_tests) in
          rw e at c)

      calm_unblocked : (w t : ℕ) → On (m.list w) t → Prefers m (stands m closed) w t → C t (insert (staff (stands m closed) t) w) w ≡ false
      calm_unblocked w t o p =
          subst (λ s. C s (insert (staff (stands m closed) s) w) w ≡ false) (getD_rank (m.list w) t 255 o)
          (before.refuses w (rank (m.list w) t) (omega (arith, stands_rank m closed w)))

      pub calm_stable : Stable m C (stands m closed)
      calm_stable = record { listed = stands_listed m closed; acceptable = calm_acceptable; unblocked = calm_unblocked }

      pub calm_best : WorkerBest m C (stands m closed)
      calm_best y sy w = omega (arith, stands_rank m closed w, before.unused y sy w)
