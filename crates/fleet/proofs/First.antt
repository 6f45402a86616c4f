-- The lowest member of a set: it is a member, none is lower, and one is found where there is one.
use Rattle.std.proofs.Common.{◌≡◌, ℕ, zero, suc, ◌<◌, ◌≤◌, Bool, true, false, ◌⊎◌, Some, None, Option, sym, refl, ◌∙◌, inl, inr, arith}
use Rattle.std.proofs.lemmas.Bool.{cases_eq, cases_lt}
use Rattle.fleet.specs.Sets.{Set, lowest}
use Rattle.fleet.proofs.Sizes.{false_since}

pub SomeInj : {A : Type 0} {a b : A} → Some a ≡ Some b → a ≡ b
SomeInj e = cc

pub Some≢None : {A : Type 0} {a : A} → Some a ≡ None → ⊥
Some≢None e = let z : ◌≡◌ {A = ℕ} 0 1 = cc in omega arith

-- the member found is one, and below n
pub lowest_some : (n : ℕ) (A : Set) (v : ℕ) → lowest n A ≡ Some v → (A v ≡ true) × (v < n)
lowest_some zero A v e = absurd (Some≢None (sym e))
lowest_some (suc n) A v e = go (lowest n A) refl (lowest_some n A v)
  where
    go : (o : Option ℕ) → lowest n A ≡ o → (lowest n A ≡ Some v → (A v ≡ true) × (v < n)) → (A v ≡ true) × (v < suc n)
    go (Some u) h rec = let r = rec (h ∙ (rw h at e)) in let q = r.1 in (r.0, omega arith)
    go None h rec = at (A n) refl
      where
        at : (b : Bool) → A n ≡ b → (A v ≡ true) × (v < suc n)
        at true i = let k : n ≡ v = SomeInj (rw (h, i) at e) in (rw (← k) i, omega arith)
        at false i = absurd (Some≢None (sym (rw (h, i) at e)))

-- where there is a member below n, one is found
pub lowest_exists : (n : ℕ) (A : Set) (v : ℕ) → A v ≡ true → v < n → (u : ℕ) × (lowest n A ≡ Some u)
lowest_exists zero A v h l = absurd (omega arith)
lowest_exists (suc n) A v h l = go (lowest n A) refl (lowest_exists n A v h)
  where
    go : (o : Option ℕ) → lowest n A ≡ o → (v < n → (u : ℕ) × (lowest n A ≡ Some u)) → (u : ℕ) × (lowest (suc n) A ≡ Some u)
    go (Some u) e rec = (u, rw e)
    go None e rec = at (cases_eq v n)
      where
        at : (v ≡ n) ⊎ (v ≡ n → ⊥) → (u : ℕ) × (lowest (suc n) A ≡ Some u)
        at (inl k) = let i : A n ≡ true = rw k at h in (n, rw (e, i))
        at (inr k) = let r = rec (omega arith) in absurd (Some≢None (sym r.1 ∙ e))

-- the only member is the lowest
pub lowest_is : (n : ℕ) (A : Set) (v : ℕ) → A v ≡ true → v < n → ((u : ℕ) → A u ≡ true → u ≡ v) → lowest n A ≡ Some v
lowest_is n A v h l f =
    let r = lowest_exists n A v h l in
    let s = lowest_some n A r.0 r.1 in
    let k : r.0 ≡ v = f r.0 s.0 in
    rw k at r.1

-- none is found where there is none below n
pub lowest_none : (n : ℕ) (A : Set) → ((u : ℕ) → u < n → A u ≡ false) → lowest n A ≡ None
lowest_none zero A f = refl
lowest_none (suc n) A f = rw (lowest_none n A (λ u l. f u (omega arith)), f n (omega arith))

-- where none is found, there is none below n
pub none_below : (n : ℕ) (A : Set) → lowest n A ≡ None → (u : ℕ) → u < n → A u ≡ false
none_below n A e u l = false_since (A u) (λ h. let r = lowest_exists n A u h l in Some≢None (sym r.1 ∙ e))

-- a member below n is the lowest where none is lower
pub lowest_least : (n : ℕ) (A : Set) (v : ℕ) → v < n → A v ≡ true → ((u : ℕ) → u < v → A u ≡ false) → lowest n A ≡ Some v
lowest_least zero A v l e f = absurd (omega arith)
lowest_least (suc n) A v l e f = go (cases_lt v n) (λ k. lowest_least n A v k e f)
  where
    go : (v < n) ⊎ (n ≤ v) → (v < n → lowest n A ≡ Some v) → lowest (suc n) A ≡ Some v
    go (inl k) more = rw (more k)
    go (inr k) more = let q : v ≡ n = omega arith in rw (lowest_none n A (λ u i. f u (omega arith)), ← q, e)

-- no member is lower than the one found
pub lowest_below : (n : ℕ) (A : Set) (v u : ℕ) → lowest n A ≡ Some v → u < v → A u ≡ false
lowest_below zero A v u e l = absurd (Some≢None (sym e))
lowest_below (suc n) A v u e l = go (lowest n A) refl (λ k. lowest_below n A v u k l)
  where
    go : (o : Option ℕ) → lowest n A ≡ o → (lowest n A ≡ Some v → A u ≡ false) → A u ≡ false
    go (Some w) h rec = rec (h ∙ (rw h at e))
    go None h rec = let k = (lowest_some (suc n) A v e).1 in none_below n A h u (omega arith)
