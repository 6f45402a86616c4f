-- What the library's search of a slice says in the words of the subject.
use Rattle.std.specs.Prelude.{◌≡◌, ℕ, suc, true, List, [], ◌∷◌, length, ◌==◌, nat_lt, unwrap_or, position, refl}
use Rattle.std.proofs.Common.{arith}
use Rattle.std.specs.List.{position_or_len}
use Rattle.std.proofs.lemmas.Bool.Decides.{nat_tests}
use Rattle.fleet.specs.Market.{rank}

first_is_rank : (xs : List ℕ) (t : ℕ) → position_or_len (λ u. u == t) xs ≡ rank xs t
first_is_rank [] t = refl
first_is_rank (x ∷ xs) t = let e = first_is_rank xs t in grind arith

within : (xs : List ℕ) (t : ℕ) → nat_lt (rank xs t) (suc (length xs)) ≡ true
within [] t = refl
within (x ∷ xs) t = let i = within xs t in grind (arith, nat_tests)

-- the place of the first that is equal, or else the length, is the rank
pub position_rank : (xs : List ℕ) (t : ℕ) → unwrap_or (position (λ u. u == t) xs) (length xs) ≡ rank xs t
position_rank xs t = let e = first_is_rank xs t in let i = within xs t in grind (arith, nat_tests)
