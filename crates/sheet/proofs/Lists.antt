-- Lists of different numbers below a bound: their parts, their lengths, and ranking them one by one.
use Rattle.std.proofs.Common.{◌≡◌, ℕ, zero, suc, ◌<◌, true, ltb, List, [], ◌∷◌, get_or, set, replicate, refl}
use Rattle.std.proofs.lemmas.Bool.{and_parts, and_from, lt-ltb}
use Rattle.fleet.specs.Sets.{all_under}

-- a number below the bound keeps all below it
pub under_set : (n : ℕ) (l : List ℕ) (i v : ℕ) → all_under n l ≡ true → v < n → all_under n (set l i v) ≡ true
under_set n [] i v h k = refl
under_set n (x ∷ xs) zero v h k = and_from (ltb v n) (all_under n xs) (lt-ltb v n k) (and_parts (ltb x n) (all_under n xs) h).1
under_set n (x ∷ xs) (suc i) v h k = let p = and_parts (ltb x n) (all_under n xs) h in and_from (ltb x n) (all_under n (set xs i v)) p.0 (under_set n xs i v p.1 k)

-- a list of zeros has only zeros
pub zeros : (n w : ℕ) → get_or {A = ℕ} (replicate n 0) w 0 ≡ 0
zeros zero w = refl
zeros (suc n) zero = refl
zeros (suc n) (suc w) = zeros n w
