-- The index of a set up to a place, and the workers that an entry names up to a place, one place at a time.
use Rattle.std.proofs.Common.{◌≡◌, ℕ, ◌+◌, ◌*◌, ◌/◌, ◌%◌, ◌^◌, ◌<◌, ◌≤◌, Bool, true, false, cond, ◌&&◌, eqb, ltb, ◌⊎◌, List, [], ◌∷◌, ◌++◌, length, get_or, take, sym, ap, ◌∙◌, inl, inr, arith, pow-suc, pow_mono}
use mathlib.Core.Path.{fun_ext}
use lib.Bits.{bit_and}
use Rattle.std.proofs.lemmas.Nat.{and_mask}
use Rattle.std.proofs.lemmas.List.{take_more, length-take-le}
use Rattle.std.proofs.lemmas.Bool.{cases_eq}
use Rattle.std.proofs.lemmas.Bool.Decides.{nat_tests}
use Rattle.fleet.specs.Sets.{Set, with_worker}
use Rattle.fleet.specs.Market.{rank, different}
use Rattle.fleet.specs.Members.{bit}
use Rattle.fleet.proofs.Different.{among_on, rank_same}
use Rattle.fleet.proofs.Ranks.{getD_rank}
use Rattle.policy.specs.Tables.{index_of, named_by}
use Rattle.policy.specs.Indices.{index_below}

pub index_small : (ws : List ℕ) (Z : Set) → length ws ≤ 8 → index_of ws Z < 256
index_small ws Z few = let p : 2 ^ length ws ≤ 2 ^ 8 = pow_mono few in omega (arith, index_below ws Z)

-- the index of one worker more
index_push : (ws : List ℕ) (w : ℕ) (Z : Set) → index_of (ws ++ (w ∷ [])) Z ≡ index_of ws Z + cond (Z w) (2 ^ length ws) 0
index_push [] w Z = grind arith
index_push (x ∷ ws) w Z = let i = index_push ws w Z in let p = pow-suc 2 (length ws) in grind arith

module _ (ws : List ℕ) (Z : Set) (i : ℕ) (few : length ws ≤ 8) (l : i < length ws) where
  -- bit i fits a byte

  pub bit_small : 2 ^ i ≤ 128
  bit_small = let j : i ≤ 7 = omega arith in pow_mono j

  pub bit_alone : (1 * 2 ^ i) % 18446744073709551616 ≡ 2 ^ i
  bit_alone = let s = bit_small in grind arith

  pub index_more : index_of (take (i + 1) ws) Z ≡ index_of (take i ws) Z + cond (Z (get_or ws i 0)) (2 ^ i) 0
  index_more =
      ap (λ (k : List ℕ). index_of k Z) (take_more ws i 0 l) ∙ index_push (take i ws) (get_or ws i 0) Z
      ∙ ap (λ (n : ℕ). index_of (take i ws) Z + cond (Z (get_or ws i 0)) (2 ^ n) 0) (length-take-le i ws (omega arith))

-- bit i, as a shift and a mask test it
pub bit_test : (bits i : ℕ) → bit bits i ≡ eqb (bit_and (bits / 2 ^ i) 1) 1
unfolding bit
bit_test bits i = sym (ap (λ (n : ℕ). eqb n 1) (and_mask (bits / 2 ^ i) 1))

-- the workers of the first i places that the bits name
abbrev pub named_upto : List ℕ → ℕ → ℕ → Set
named_upto ws bits i v = ltb (rank ws v) i && bit bits (rank ws v)

module _ (ws : List ℕ) (d : different ws ≡ true) (bits : ℕ) (i : ℕ) (l : i < length ws) where
  -- only the worker at place i has this rank
  other : (v : ℕ) → (v ≡ get_or ws i 0 → ⊥) → rank ws v ≡ i → ⊥
  other v n q = n (sym (getD_rank ws v 0 (omega arith)) ∙ ap (λ (k : ℕ). get_or ws k 0) q)

  -- the bits name the worker there, or they do not

  pub names : get_or ws i 0 < 64 → bit bits i ≡ true → with_worker (named_upto ws bits i) (get_or ws i 0) ≡ named_upto ws bits (i + 1)
  names small b = fun_ext (λ v. at v (cases_eq v (get_or ws i 0)))
    where
      at : (v : ℕ) → (v ≡ get_or ws i 0) ⊎ (v ≡ get_or ws i 0 → ⊥) → with_worker (named_upto ws bits i) (get_or ws i 0) v ≡ named_upto ws bits (i + 1) v
      at v (inl e) = rw (e, rank_same ws d i 0 l, b) (grind (arith, nat_tests))
      at v (inr n) = let o = other v n in grind (arith, nat_tests)

  pub names_not : bit bits i ≡ false → named_upto ws bits i ≡ named_upto ws bits (i + 1)
  names_not b = fun_ext (λ v. at v (cases_eq v (get_or ws i 0)))
    where
      at : (v : ℕ) → (v ≡ get_or ws i 0) ⊎ (v ≡ get_or ws i 0 → ⊥) → named_upto ws bits i v ≡ named_upto ws bits (i + 1) v
      at v (inl e) = rw (e, rank_same ws d i 0 l, b) (grind (arith, nat_tests))
      at v (inr n) = let o = other v n in grind (arith, nat_tests)

pub names_all : (ws : List ℕ) (bits i : ℕ) → i ≡ length ws → named_upto ws bits i ≡ named_by ws bits
names_all ws bits i e = fun_ext (λ v. let k = among_on ws v in rw e (ap (λ (b : Bool). b && bit bits (rank ws v)) k))
