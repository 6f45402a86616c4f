-- The placement after a rotation is stable, and every tenant likes it as well as the one before.
use Rattle.std.proofs.Common.{◌≡◌, ℕ, ◌<◌, ◌≤◌, Bool, true, false, ◌&&◌, eqb, ◌⊎◌, sym, refl, ap, ◌∙◌, inl, inr, arith}
use mathlib.Core.Path.{fun_ext}
use Rattle.std.proofs.lemmas.Bool.{cases_lt, cond-true}
use Rattle.std.proofs.lemmas.Bool.Decides.{nat_tests}
use Rattle.fleet.specs.Sets.{Set, Workers, union, insert, minus, singleton}
use Rattle.fleet.specs.Market.{Market, Placement, rank, On, staff, depth}
use Rattle.fleet.proofs.Sizes.{same_at, false_since, size_into}
use Rattle.fleet.proofs.Ranks.{rank_inj}
use Rattle.policy.specs.Choice.{Policy}
use Rattle.matching.specs.Stable.{Given, Prefers, Stable, AllLike, wants}
use Rattle.rotation.specs.Rotation.{Cycle, target, after}
use Rattle.matching.proofs.Facts.{staff_workers, wants_back}
use Rattle.rotation.proofs.Tandem.{Tandem, tandem, tandem_all}
use Rattle.rotation.proofs.Steps.{next}
use Rattle.rotation.proofs.Cycles.{stays, onto, next_inj, displaces, cycle_workers}

-- those of S that step to t
abbrev pub incoming : Market → Policy → Placement → Set → ℕ → Set
incoming m C x S t w = S w && eqb (target m C x w) t

-- those of S that leave t
abbrev pub leaving : Placement → Set → ℕ → Set
leaving x S t w = S w && eqb (x w) t

module _ {m : Market} {C : Policy} {x : Placement} {S : Set} (c : Cycle m C x S) where
  -- no step leads to the own tenant
  pub target_moves : (w : ℕ) → S w ≡ true → target m C x w ≡ x w → ⊥
  target_moves w h e =
      let a : depth m x w < depth m x w = rw e at (displaces c w h).steps.down in
      omega arith

  pub after_moves : (w : ℕ) → S w ≡ true → after m C x S w ≡ x w → ⊥
  after_moves w h e = target_moves w h (sym (cond-true (S w) (target m C x w) (x w) h) ∙ e)

  -- a tenant has its workers and those that come, less those that leave
  pub staff_after : (t : ℕ) → staff (after m C x S) t ≡ minus (union (staff x t) (incoming m C x S t)) (leaving x S t)
  staff_after t = fun_ext (λ w. let z = target_moves w in grind (arith, nat_tests))

module _ {m : Market} {C : Policy} (given : Given m C) {x : Placement} (st : Stable m C x) {S : Set} (c : Cycle m C x S) where
  -- at each tenant as many come as go, each for one
  pub tandem_at : (t : ℕ) → t < m.tenants → Tandem (C t) (staff x t) (incoming m C x S t) (leaving x S t)
  tandem_at t l = record {
    small = λ w h. let a = staff_workers given st t l w in let b = cycle_workers c w in grind arith;
    content = st.acceptable t l;
    apart = λ w h k. let z = target_moves c w in grind (arith, nat_tests);
    own = λ w h. grind arith;
    enough = size_into (incoming m C x S t) (leaving x S t) (next m C x) (λ w h. cycle_workers c w (grind arith))
        (λ a h. let k : S a ≡ true = grind arith in let i = (displaces c a k).works in let j = stays c a k in grind (arith, nat_tests))
        (λ a b h k e. next_inj c a b (grind arith) (grind arith) e);
    out = out;
  }
    where
      out : (b : ℕ) → leaving x S t b ≡ true → (a : ℕ) × (incoming m C x S t a ≡ true) × (C t (insert (staff x t) a) b ≡ false)
      out b h =
          let k : S b ≡ true = grind arith in
          let r = onto c b k in
          let a = r.0 in
          let i = r.1 in
          let e = r.2 in
          let d = displaces c a i in
          let works : x b ≡ target m C x a = rw e at d.works in
          let g : target m C x a ≡ t = grind (arith, nat_tests) in
          let o : C t (insert (staff x t) a) b ≡ false = rw (g, e) at d.out in
          (a, grind (arith, nat_tests), o)

  after_acceptable : (t : ℕ) → t < m.tenants → C t (staff (after m C x S) t) ≡ staff (after m C x S) t
  after_acceptable t l =
      ap (C t) (staff_after c t) ∙ tandem (given.lawful t) (tandem_at t l) (leaving x S t) (λ w h. h) ∙ sym (staff_after c t)

  pub after_liked : AllLike m C (after m C x S) x
  after_liked t l = ap (C t) both ∙ tandem_all (given.lawful t) (tandem_at t l) ∙ sym (staff_after c t)
    where
      both : union (staff (after m C x S) t) (staff x t) ≡ union (staff x t) (incoming m C x S t)
      both = fun_ext (λ w. let z = target_moves c w in grind (arith, nat_tests))

  after_listed : (w : ℕ) → (after m C x S w ≡ 255) ⊎ On (m.list w) (after m C x S w)
  after_listed w = go (S w) refl
    where
      go : (b : Bool) → S w ≡ b → (after m C x S w ≡ 255) ⊎ On (m.list w) (after m C x S w)
      go true e = inr (rw e (displaces c w e).steps.on)
      go false e = rw e (st.listed w)

  -- a tenant that w would rather have afterwards wanted w before only if w has just left it
  just_left : (w t : ℕ) → On (m.list w) t → Prefers m (after m C x S) w t → wants C x w t ≡ true → (S w ≡ true) × (x w ≡ t)
  just_left w t o p h = go (S w) refl (cases_lt (rank (m.list w) t) (depth m x w))
    where
      go : (b : Bool) → S w ≡ b → (rank (m.list w) t < depth m x w) ⊎ (depth m x w ≤ rank (m.list w) t) → (S w ≡ true) × (x w ≡ t)
      go b e (inl k) = let z = st.unblocked w t o k in absurd (grind arith)
      go false e (inr k) = let p' : rank (m.list w) t < depth m x w = rw e at p in absurd (omega arith)
      go true e (inr k) = at (cases_lt (depth m x w) (rank (m.list w) t))
        where
          at : (depth m x w < rank (m.list w) t) ⊎ (rank (m.list w) t ≤ depth m x w) → (S w ≡ true) × (x w ≡ t)
          at (inl j) =
              let p' : rank (m.list w) t < rank (m.list w) (target m C x w) = rw e at p in
              let z = (displaces c w e).steps.first t j p' in
              absurd (grind arith)
          at (inr j) = (e, sym (rank_inj (m.list w) t (x w) o (omega arith)))

  -- no tenant takes back a worker that it let go
  not_back : (w t : ℕ) → t < m.tenants → S w ≡ true → x w ≡ t → C t (insert (staff (after m C x S) t) w) w ≡ false
  not_back w t l h e =
      let n = target_moves c w h in
      let same : insert (staff (after m C x S) t) w ≡ minus (union (staff x t) (incoming m C x S t)) (minus (leaving x S t) (singleton w)) =
      fun_ext (λ v. let z = target_moves c v in grind (arith, nat_tests)) in
      let k = tandem (given.lawful t) (tandem_at t l) (minus (leaving x S t) (singleton w)) (λ v i. grind arith) in
      same_at (ap (C t) same ∙ k) w ∙ grind (arith, nat_tests)

  pub after_workers : (t : ℕ) → t < m.tenants → Workers (staff (after m C x S) t)
  after_workers t l w h = (tandem_at t l).small w (let z = target_moves c w in grind (arith, nat_tests))

  after_unblocked : (w t : ℕ) → On (m.list w) t → Prefers m (after m C x S) w t → C t (insert (staff (after m C x S) t) w) w ≡ false
  after_unblocked w t o p =
      false_since (C t (insert (staff (after m C x S) t) w) w) (λ h.
      let l = given.sound.listed_below w t o in
      let k = wants_back given x (after m C x S) w t o (staff_workers given st t l) (after_workers t l) (after_liked t l) h in
      let r = just_left w t o p k in
      let z = not_back w t l r.0 r.1 in
      grind arith)

  pub after_stable : Stable m C (after m C x S)
  after_stable = record { listed = after_listed; acceptable = after_acceptable; unblocked = after_unblocked }
