-- A search upward finds the least, and the steps of such a search.
use Rattle.std.specs.Prelude.{◌≡◌, ℕ, zero, suc, ◌+◌, ◌-◌, ◌<◌, ◌≤◌, Bool, true, false, cond, ◌⊎◌, Some, None, Option, ◌≢◌, refl}
use Rattle.std.proofs.Common.{arith, add-one, sym, ap, ◌∙◌, subst, inl, inr}
use Rattle.std.proofs.lemmas.Bool.{cases_eq}
use Rattle.std.specs.List.{find, range_with_len}
use Rattle.policy.specs.Laws.{SearchLeast}
use Rattle.policy.specs.Search.{seek, seek_pair, paired, Least, LeastPair, Before}

-- no number below i passes, and from i on there are k to try
least_from : (n k i : ℕ) (p : ℕ → Bool) → i + k ≡ n → ((a : ℕ) → a < i → p a ≡ false) → Least n p (seek k i p)
unfolding seek
least_from n zero i p e none = λ a l. none a (omega arith)
least_from n (suc k) i p e none = go (p i) refl (least_from n k (suc i) p (omega arith))
  where
    go : (b : Bool) → p i ≡ b → (((a : ℕ) → a < suc i → p a ≡ false) → Least n p (seek k (suc i) p)) → Least n p (cond b (Some i) (seek k (suc i) p))
    go true h more = (omega arith, h, none)
    go false h more = more (λ a l. at a l (cases_eq a i))
      where
        at : (a : ℕ) → a < suc i → (a ≡ i) ⊎ (a ≢ i) → p a ≡ false
        at a l (inl q) = rw q h
        at a l (inr q) = none a (omega arith)

pub seek_least : (n : ℕ) (p : ℕ → Bool) → Least n p (seek n 0 p)
seek_least n p = least_from n n 0 p (omega arith) (λ a l. absurd (omega arith))

-- no pair with its first below i passes, and from i on there are k to try
least_pair_from : (n k i : ℕ) (p : ℕ → ℕ → Bool) → i + k ≡ n → ((a b : ℕ) → a < i → b < n → p a b ≡ false) → LeastPair n p (seek_pair k i n p)
unfolding seek_pair
least_pair_from n zero i p e none = λ a b l. none a b (omega arith)
least_pair_from n (suc k) i p e none = go (seek n 0 (p i)) (seek_least n (p i)) (least_pair_from n k (suc i) p (omega arith))
  where
    go : (o : Option ℕ) → Least n (p i) o → (((a b : ℕ) → a < suc i → b < n → p a b ≡ false) → LeastPair n p (seek_pair k (suc i) n p)) →
        LeastPair n p (paired i o (seek_pair k (suc i) n p))
    go (Some y) (l, h, before) more = (omega arith, l, h, at)
      where
        at : (a b : ℕ) → b < n → Before a b i y → p a b ≡ false
        at a b s (inl q) = none a b q s
        at a b s (inr (q, r)) = rw q (before b r)
    go None h more = more (λ a b l s. at a b l s (cases_eq a i))
      where
        at : (a b : ℕ) → a < suc i → b < n → (a ≡ i) ⊎ (a ≢ i) → p a b ≡ false
        at a b l s (inl q) = rw q (h b s)
        at a b l s (inr q) = none a b (omega arith) s

pub seek_pair_least : (n : ℕ) (p : ℕ → ℕ → Bool) → LeastPair n p (seek_pair n 0 n p)
seek_pair_least n p = least_pair_from n n 0 p (omega arith) (λ a b l. absurd (omega arith))

pub search_least : SearchLeast
search_least = record { number = seek_least; pair = seek_pair_least }

-- what is found is below n

pub seek_below : (n z : ℕ) (p : ℕ → Bool) → Some z ≡ seek n 0 p → z < n
seek_below n z p e = (subst (Least n p) (sym e) (seek_least n p)).0

pub pair_below : (n z y : ℕ) (p : ℕ → ℕ → Bool) → Some (z, y) ≡ seek_pair n 0 n p → (z < n) × (y < n)
pair_below n z y p e = let l = subst (LeastPair n p) (sym e) (seek_pair_least n p) in (l.0, l.1)

-- the search of a range for the first number that passes
pub seek_in_range : (p : ℕ → Bool) (k i : ℕ) → find p (range_with_len i k) ≡ seek k i p
unfolding seek
seek_in_range p zero i = refl
seek_in_range p (suc k) i = ap (cond (p i) (Some i)) (seek_in_range p k (i + 1) ∙ ap (λ (m : ℕ). seek k m p) (add-one i))

-- a number that passes ends the search, one that does not is passed over, and so to the end

pub seek_hit : (n i : ℕ) (p : ℕ → Bool) → i < n → p i ≡ true → seek (n - i) i p ≡ Some i
unfolding seek
seek_hit n i p h e = let k : n - i ≡ suc (n - (i + 1)) = omega arith in rw (k, e)

pub seek_miss : (n i : ℕ) (p : ℕ → Bool) → i < n → p i ≡ false → seek (n - i) i p ≡ seek (n - (i + 1)) (i + 1) p
unfolding seek
seek_miss n i p h e =
    let k : n - i ≡ suc (n - (i + 1)) = omega arith in
    rw (k, e) (ap (λ m. seek (n - (i + 1)) m p) (sym (add-one i)))

pub seek_end : (n i : ℕ) (p : ℕ → Bool) → n ≤ i → seek (n - i) i p ≡ None
unfolding seek
seek_end n i p h = let k : n - i ≡ 0 = omega arith in rw k

pub pair_hit : (n z y : ℕ) (p : ℕ → ℕ → Bool) → z < n → seek n 0 (p z) ≡ Some y → seek_pair (n - z) z n p ≡ Some (z, y)
unfolding seek_pair
pair_hit n z y p h e = let k : n - z ≡ suc (n - (z + 1)) = omega arith in rw (k, e)

pub pair_miss : (n z : ℕ) (p : ℕ → ℕ → Bool) → z < n → seek n 0 (p z) ≡ None → seek_pair (n - z) z n p ≡ seek_pair (n - (z + 1)) (z + 1) n p
unfolding seek_pair
pair_miss n z p h e =
    let k : n - z ≡ suc (n - (z + 1)) = omega arith in
    rw (k, e) (ap (λ m. seek_pair (n - (z + 1)) m n p) (sym (add-one z)))

pub pair_end : (n z : ℕ) (p : ℕ → ℕ → Bool) → n ≤ z → seek_pair (n - z) z n p ≡ None
unfolding seek_pair
pair_end n z p h = let k : n - z ≡ 0 = omega arith in rw k
