-- On a list without repeats the entries that rank before or after a tenant are those that stand before or after it.
use Rattle.std.proofs.Common.{◌≡◌, ℕ, suc, ◌+◌, Bool, true, false, cond, ◌&&◌, ltb, ◌⊎◌, List, [], ◌∷◌, take, drop, Some, None, Option, sym, refl, ap, ◌∙◌, inl, inr, add-one, arith}
use Rattle.std.proofs.lemmas.Bool.{cases_eq, cond-false, both_ways, and_parts, and_left, le-ltb, not-true}
use Rattle.std.proofs.lemmas.Bool.Decides.{nat_tests}
use Rattle.fleet.specs.Sets.{among}
use Rattle.fleet.specs.Market.{Market, Placement, rank, On, different}
use Rattle.fleet.proofs.Different.{on_among}
use Rattle.policy.specs.Choice.{Policy}
use Rattle.std.specs.List.{find}
use Rattle.matching.specs.Stable.{wants}
use Rattle.matching.specs.Checking.{blocks}
use Rattle.matching.specs.Stepping.{step}
use Rattle.matching.proofs.Firsts.{first_agree}

-- the head of a list without repeats does not come again
other : (t : ℕ) (l : List ℕ) → different (t ∷ l) ≡ true → (u : ℕ) → On l u → t ≡ u → ⊥
other t l d u o i = both_ways (among l t) (not-true (among l t) (and_parts _ (different l) d).0) (rw i (on_among l u o))

first_none : (p : ℕ → Bool) (l : List ℕ) → ((t : ℕ) → p t ≡ false) → find p l ≡ None
first_none p [] f = refl
first_none p (t ∷ l) f = rw (f t) (first_none p l f)

-- the entries before a
first_before : (p : ℕ → Bool) (l : List ℕ) (a : ℕ) → different l ≡ true → find (λ t. ltb (rank l t) (rank l a) && p t) l ≡ find p (take (rank l a) l)
first_before p [] a d = refl
first_before p (t ∷ l) a d = go (cases_eq t a) (first_before p l a (and_parts _ (different l) d).1)
  where
    go : (t ≡ a) ⊎ (t ≡ a → ⊥) → find (λ u. ltb (rank l u) (rank l a) && p u) l ≡ find p (take (rank l a) l) →
        find (λ u. ltb (rank (t ∷ l) u) (rank (t ∷ l) a) && p u) (t ∷ l) ≡ find p (take (rank (t ∷ l) a) (t ∷ l))
    go (inl e) rec =
        let r : rank (t ∷ l) a ≡ 0 = grind (arith, nat_tests) in
        first_none (λ u. ltb (rank (t ∷ l) u) (rank (t ∷ l) a) && p u) (t ∷ l) (λ u. and_left (ltb (rank (t ∷ l) u) (rank (t ∷ l) a)) (p u) (le-ltb (rank (t ∷ l) u) (rank (t ∷ l) a) (omega arith))) ∙ ap (λ (k : ℕ). find p (take k (t ∷ l))) (sym r)
    go (inr n) rec =
        let r : rank (t ∷ l) a ≡ suc (rank l a) = grind (arith, nat_tests) in
        let head : (ltb (rank (t ∷ l) t) (rank (t ∷ l) a) && p t) ≡ p t = grind (arith, nat_tests) in
        let test : ℕ → Bool = λ u. ltb (rank (t ∷ l) u) (rank (t ∷ l) a) && p u in
        let rest = first_agree test (λ u. ltb (rank l u) (rank l a) && p u) l (λ u o. let k = other t l d u o in grind (arith, nat_tests)) in
        ap (λ (b : Bool). cond b (Some t) (find test l)) head ∙ ap (λ (o : Option ℕ). cond (p t) (Some t) o) (rest ∙ rec) ∙ ap (λ (k : ℕ). find p (take k (t ∷ l))) (sym r)

-- the entries after a
first_after : (p : ℕ → Bool) (l : List ℕ) (a : ℕ) → different l ≡ true → find (λ t. ltb (rank l a) (rank l t) && p t) l ≡ find p (drop (suc (rank l a)) l)
first_after p [] a d = refl
first_after p (t ∷ l) a d = go (cases_eq t a) (first_after p l a (and_parts _ (different l) d).1)
  where
    no_head : (ltb (rank (t ∷ l) a) (rank (t ∷ l) t) && p t) ≡ false
    no_head = grind (arith, nat_tests)

    go : (t ≡ a) ⊎ (t ≡ a → ⊥) → find (λ u. ltb (rank l a) (rank l u) && p u) l ≡ find p (drop (suc (rank l a)) l) →
        find (λ u. ltb (rank (t ∷ l) a) (rank (t ∷ l) u) && p u) (t ∷ l) ≡ find p (drop (suc (rank (t ∷ l) a)) (t ∷ l))
    go (inl e) rec =
        let r : rank (t ∷ l) a ≡ 0 = grind (arith, nat_tests) in
        let rest = first_agree (λ u. ltb (rank (t ∷ l) a) (rank (t ∷ l) u) && p u) p l (λ u o. let n = other t l d u o in grind (arith, nat_tests)) in
        cond-false _ (Some t) _ no_head ∙ rest ∙ ap (λ (k : ℕ). find p (drop k l)) (sym r)
    go (inr n) rec =
        let r : rank (t ∷ l) a ≡ suc (rank l a) = grind (arith, nat_tests) in
        let rest = first_agree (λ u. ltb (rank (t ∷ l) a) (rank (t ∷ l) u) && p u) (λ u. ltb (rank l a) (rank l u) && p u) l (λ u o. let k = other t l d u o in grind (arith, nat_tests)) in
        cond-false _ (Some t) _ no_head ∙ rest ∙ rec ∙ ap (λ (k : ℕ). find p (drop k l)) (sym r)

-- a step is looked for after the worker's own tenant, and a pair that blocks before it; l is the worker's list, and has the tenant at `own`
module _ (m : Market) (C : Policy) (x : Placement) (w : ℕ) (d : different (m.list w) ≡ true) (l : List ℕ) (own : ℕ) (same : l ≡ m.list w) (e : own ≡ rank l (x w)) where
  pub step_scan : step m C x w ≡ find (wants C x w) (drop (own + 1) l)
  step_scan =
      first_after (wants C x w) (m.list w) (x w) d ∙ ap (λ (k : List ℕ). find (wants C x w) (drop (suc (rank k (x w))) k)) (sym same) ∙
      ap (λ (n : ℕ). find (wants C x w) (drop n l)) (ap suc (sym e) ∙ sym (add-one own))

  pub block_scan : find (blocks m C x w) (m.list w) ≡ find (wants C x w) (take own l)
  block_scan =
      first_before (wants C x w) (m.list w) (x w) d ∙ ap (λ (k : List ℕ). find (wants C x w) (take (rank k (x w)) k)) (sym same) ∙
      ap (λ (n : ℕ). find (wants C x w) (take n l)) (sym e)
