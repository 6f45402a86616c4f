-- What a sound market and a stable placement give at once.
use Rattle.std.proofs.Common.{◌≡◌, ℕ, ◌<◌, ◌≤◌, true, ◌⊎◌, sym, ◌∙◌, inl, inr, arith}
use Rattle.std.proofs.lemmas.Bool.{cases_lt, eqb-true}
use Rattle.std.proofs.lemmas.Bool.Decides.{nat_tests}
use Rattle.fleet.specs.Sets.{Set, Within, Workers, union, insert, singleton}
use Rattle.fleet.specs.Market.{Market, Sound, Placement, rank, On, staff, depth}
use Rattle.fleet.specs.Lists.{market}
use Rattle.fleet.specs.declared.lists.Lists.{Lists}
use Rattle.fleet.proofs.Sizes.{same_at}
use Rattle.fleet.proofs.Sound.{lists_sound}
use Rattle.fleet.proofs.Ranks.{rank_le, rank_inj}
use Rattle.policy.specs.Choice.{Policy, KeepsLaws}
use Rattle.policy.specs.Choose.{path_independent}
use Rattle.matching.specs.Stable.{Given, Stable, Likes, wants}

-- the lists and the policy of a program give what is taken for granted
pub lists_given : (l : Lists) {n : ℕ} {C : Policy} → KeepsLaws n C → Given (market l) C
lists_given l kept = record { sound = lists_sound l; lawful = kept.laws }

module _ {m : Market} (sound : Sound m) where
  -- only workers have lists
  pub on_worker : (w t : ℕ) → On (m.list w) t → w < m.workers
  on_worker w t o = go (cases_lt w m.workers)
    where
      go : (w < m.workers) ⊎ (m.workers ≤ w) → w < m.workers
      go (inl l) = l
      go (inr l) = let e = sound.past_empty w l in let o' : 0 < 0 = rw e at o in absurd (omega arith)

  pub on_small : (w t : ℕ) → On (m.list w) t → w < 64
  on_small w t o = omega (arith, on_worker w t o, sound.few_workers)

-- stable placements that rank w alike place it alike
pub placed_same : {m : Market} {C : Policy} {x y : Placement} → Stable m C x → Stable m C y → (w : ℕ) → depth m x w ≡ depth m y w → x w ≡ y w
placed_same {m} {C} {x} {y} sx sy w e = go (sx.listed w) (sy.listed w)
  where
    go : (x w ≡ 255) ⊎ On (m.list w) (x w) → (y w ≡ 255) ⊎ On (m.list w) (y w) → x w ≡ y w
    go (inr o) k = rank_inj (m.list w) (x w) (y w) o e
    go (inl i) (inl j) = i ∙ sym j
    go (inl i) (inr o) = sym (rank_inj (m.list w) (y w) (x w) o (sym e))

module _ {m : Market} {C : Policy} (given : Given m C) where
  -- a placed worker's tenant is on its list
  pub tenant_on : {x : Placement} → Stable m C x → (w : ℕ) → x w < m.tenants → On (m.list w) (x w)
  tenant_on {x} st w l = go (st.listed w)
    where
      go : (x w ≡ 255) ⊎ On (m.list w) (x w) → On (m.list w) (x w)
      go (inl e) = absurd (omega (arith, given.sound.few_tenants))
      go (inr o) = o

  -- a tenant's workers are worker numbers
  pub staff_workers : {x : Placement} → Stable m C x → (t : ℕ) → t < m.tenants → Workers (staff x t)
  staff_workers {x} st t l w h =
      let e : x w ≡ t = eqb-true (x w) t h in
      on_small given.sound w (x w) (tenant_on st w (omega arith))

  pub both_workers : {x y : Placement} → Stable m C x → Stable m C y → (t : ℕ) → t < m.tenants → Workers (union (staff x t) (staff y t))
  both_workers sx sy t l w h = let a = staff_workers sx t l w in let b = staff_workers sy t l w in grind arith

  -- whom t would choose, even among more than its own, does not prefer t
  pub chosen_stays : {x : Placement} → Stable m C x → (t : ℕ) (Z : Set) → Workers Z → Within (staff x t) Z → (w : ℕ) → C t Z w ≡ true →
      depth m x w ≤ rank (m.list w) t
  chosen_stays {x} st t Z small own w h = go (cases_lt (rank (m.list w) t) (depth m x w))
    where
      go : (rank (m.list w) t < depth m x w) ⊎ (depth m x w ≤ rank (m.list w) t) → depth m x w ≤ rank (m.list w) t
      go (inr l) = l
      go (inl l) =
          let out = st.unblocked w t (omega (arith, rank_le (m.list w) (x w))) l in
          let i = (given.lawful t).inside Z small w h in
          let s = (given.lawful t).substitutable Z (insert (staff x t) w) small (λ v k. let j = own v in grind (arith, nat_tests)) w h (grind (arith, nat_tests)) in
          absurd (grind arith)

  -- who is wanted at the placement that t likes better is wanted at the other
  pub wants_back : (x y : Placement) (w t : ℕ) → On (m.list w) t → Workers (staff x t) → Workers (staff y t) → Likes C y x t →
      wants C y w t ≡ true → wants C x w t ≡ true
  wants_back x y w t o sx sy like h =
      let p = path_independent (given.lawful t) (union (staff y t) (staff x t)) (singleton w) small in
      let h' : C t (union (C t (union (staff y t) (staff x t))) (singleton w)) w ≡ true = rw like h in
      (given.lawful t).substitutable all (insert (staff x t) w) small (λ v i. grind arith) w (sym (same_at p w) ∙ h') (grind (arith, nat_tests))
    where
      all : Set
      all = union (union (staff y t) (staff x t)) (singleton w)

      small : Workers all
      small v i = let a = sx v in let b = sy v in let d = on_small given.sound w t o in grind (arith, nat_tests)
