-- The lowest number for which something is found, and where nothing is found.
use Rattle.std.proofs.Common.{◌≡◌, ℕ, zero, suc, ◌<◌, ◌⊎◌, Some, None, Option, refl, inl, inr, arith}
use Rattle.std.proofs.lemmas.Bool.{cases_eq}
use Rattle.fleet.proofs.First.{Some≢None}
use Rattle.matching.specs.Checking.{lowest_with}

module _ (f : ℕ → Option ℕ) where
  -- what is found is found in more
  pub found_first : (w a n : ℕ) → lowest_with w f ≡ None → f w ≡ Some a → w < n → lowest_with n f ≡ Some (w, a)
  found_first w a zero e h l = absurd (omega arith)
  found_first w a (suc n) e h l = go (cases_eq w n) (found_first w a n e h)
    where
      go : (w ≡ n) ⊎ (w ≡ n → ⊥) → (w < n → lowest_with n f ≡ Some (w, a)) → lowest_with (suc n) f ≡ Some (w, a)
      go (inl q) more = rw (← q) (rw (e, h))
      go (inr q) more = rw (more (omega arith))

  -- where nothing is found there is nothing
  pub nothing_found : (n : ℕ) → lowest_with n f ≡ None → (w : ℕ) → w < n → f w ≡ None
  nothing_found zero e w l = absurd (omega arith)
  nothing_found (suc n) e w l = go (lowest_with n f) refl (f n) refl (λ k. nothing_found n k w)
    where
      go : (o : Option (ℕ × ℕ)) → lowest_with n f ≡ o → (p : Option ℕ) → f n ≡ p → (lowest_with n f ≡ None → w < n → f w ≡ None) → f w ≡ None
      go (Some a) h p k more = absurd (Some≢None (rw h at e))
      go None h (Some a) k more = absurd (Some≢None (rw (h, k) at e))
      go None h None k more = elim (cases_eq w n) [ inl q ↦ rw q k | inr q ↦ more h (omega arith) ]

  pub nothing_there : (n : ℕ) → ((w : ℕ) → w < n → f w ≡ None) → lowest_with n f ≡ None
  nothing_there zero h = refl
  nothing_there (suc n) h = rw (nothing_there n (λ w l. h w (omega arith)), h n (omega arith))
