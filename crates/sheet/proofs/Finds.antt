-- A search upward is a search in the list of the numbers.
use Rattle.std.proofs.Common.{◌≡◌, ℕ, zero, suc, Bool, cond, Some, Option, sym, refl, ap, ◌∙◌, add-one}
use Rattle.std.proofs.lemmas.Iterator.Adapters.{option_map_id}
use Rattle.std.specs.List.{find, range_with_len}
use Rattle.std.specs.Option.{option_map}
use Rattle.policy.specs.Search.{seek}

-- the first of so many numbers that passes
find_seek : (k i : ℕ) (p : ℕ → Bool) → find p (range_with_len i k) ≡ seek k i p
unfolding seek
find_seek zero i p = refl
find_seek (suc k) i p = rw (add-one) (ap (λ (o : Option ℕ). cond (p i) (Some i) o) (find_seek k (suc i) p))

pub sought : (n : ℕ) (p : ℕ → Bool) (o : Option ℕ) → option_map (λ x. x) o ≡ find p (range_with_len 0 n) → o ≡ seek n 0 p
sought n p o e = sym (option_map_id o) ∙ e ∙ find_seek n 0 p
