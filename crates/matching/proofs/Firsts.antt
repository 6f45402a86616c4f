-- The first entry of a list that passes a test: it is on the list, passes, and none before it does.
use Rattle.std.proofs.Common.{◌≡◌, ℕ, ◌<◌, ◌≤◌, Bool, true, false, ◌⊎◌, List, [], ◌∷◌, Some, sym, refl, inl, inr, arith}
use Rattle.std.proofs.lemmas.Bool.{cases_eq, cases_lt}
use Rattle.std.proofs.lemmas.Bool.Decides.{nat_tests}
use Rattle.fleet.specs.Market.{rank, On}
use Rattle.fleet.proofs.Ranks.{rank_inj}
use Rattle.fleet.proofs.First.{SomeInj, Some≢None}
use Rattle.std.specs.List.{find}

-- the entry found is on the list, passes, and all before it fail
pub first_some : (p : ℕ → Bool) (l : List ℕ) (g : ℕ) → find p l ≡ Some g → On l g × (p g ≡ true) × ((t : ℕ) → rank l t < rank l g → p t ≡ false)
first_some p [] g e = absurd (Some≢None (sym e))
first_some p (x ∷ l) g e = go (p x) refl (first_some p l g)
  where
    go : (b : Bool) → p x ≡ b → (find p l ≡ Some g → On l g × (p g ≡ true) × ((t : ℕ) → rank l t < rank l g → p t ≡ false)) →
        On (x ∷ l) g × (p g ≡ true) × ((t : ℕ) → rank (x ∷ l) t < rank (x ∷ l) g → p t ≡ false)
    go true h rec =
        let k : x ≡ g = SomeInj (rw h at e) in
        (grind (arith, nat_tests), (rw (← k) h), λ t l. absurd (grind (arith, nat_tests)))
    go false h rec =
        let r = rec (rw h at e) in
        let q = r.0 in
        let u = r.1 in
        let n : x ≡ g → ⊥ = λ k. let z : p g ≡ false = rw k at h in grind arith in
        (grind (arith, nat_tests), u, λ t l. at t l (cases_eq x t) n (r.2 t))
      where
        at : (t : ℕ) → rank (x ∷ l) t < rank (x ∷ l) g → (x ≡ t) ⊎ (x ≡ t → ⊥) → (x ≡ g → ⊥) → (rank l t < rank l g → p t ≡ false) → p t ≡ false
        at t less (inl k) n f = rw k at h
        at t less (inr k) n f = f (grind (arith, nat_tests))

-- where some entry passes, one that ranks no later is found
pub first_exists : (p : ℕ → Bool) (l : List ℕ) (t : ℕ) → On l t → p t ≡ true → (g : ℕ) × (find p l ≡ Some g) × (rank l g ≤ rank l t)
first_exists p [] t o h = absurd (omega arith)
first_exists p (x ∷ l) t o h = go (p x) refl (first_exists p l t)
  where
    go : (b : Bool) → p x ≡ b → (On l t → p t ≡ true → (g : ℕ) × (find p l ≡ Some g) × (rank l g ≤ rank l t)) →
        (g : ℕ) × (find p (x ∷ l) ≡ Some g) × (rank (x ∷ l) g ≤ rank (x ∷ l) t)
    go true e rec = (x, (rw e), grind (arith, nat_tests))
    go false e rec =
        let n : x ≡ t → ⊥ = λ k. let z : p t ≡ false = rw k at e in grind arith in
        let r = rec (grind (arith, nat_tests)) h in
        let q = r.2 in
        (r.0, (rw e r.1), grind (arith, nat_tests))

-- what passes and has none that passes before it is found
pub first_is : (p : ℕ → Bool) (l : List ℕ) (g : ℕ) → On l g → p g ≡ true → ((t : ℕ) → rank l t < rank l g → p t ≡ false) → find p l ≡ Some g
first_is p l g o h f =
    let r = first_exists p l g o h in
    go r.0 r.1 r.2 (first_some p l r.0 r.1).1 (cases_lt (rank l r.0) (rank l g))
  where
    go : (k : ℕ) → find p l ≡ Some k → rank l k ≤ rank l g → p k ≡ true → (rank l k < rank l g) ⊎ (rank l g ≤ rank l k) → find p l ≡ Some g
    go k e q u (inl c) = let z = f k c in absurd (grind arith)
    go k e q u (inr c) = let i : g ≡ k = rank_inj l g k o (omega arith) in rw i e

-- tests that agree on the list find the same
pub first_agree : (p q : ℕ → Bool) (l : List ℕ) → ((t : ℕ) → On l t → p t ≡ q t) → find p l ≡ find q l
first_agree p q [] h = refl
first_agree p q (t ∷ l) h =
    let e : p t ≡ q t = h t (grind (arith, nat_tests)) in
    let i = first_agree p q l (λ u o. h u (grind (arith, nat_tests))) in
    rw (e, i)
