-- The bits of words, and of the index of a set.
use Rattle.std.specs.Prelude.{◌≡◌, ℕ, zero, suc, ◌/◌, ◌^◌, ◌<◌, ◌≤◌, true, ◌⊎◌, List, [], ◌∷◌, length, bit_and, count_ones, slice_index_or}
use Rattle.std.proofs.Common.{pow-suc, arith, sym, ap, ◌∙◌, inl, inr}
use Rattle.std.proofs.lemmas.Nat.{and_le_l}
use Rattle.std.proofs.lemmas.Bool.{cases_lt, eqb-true, eq-eqb, both_ways}
use Rattle.std.proofs.lemmas.Bool.Decides.{nat_tests}
use Rattle.fleet.specs.Sets.{Set, Within, Workers, size}
use Rattle.fleet.specs.Members.{bit}
use Rattle.fleet.proofs.Bitwise.{and_bit, bit_zero, bit_step, past_bit, same_bits, ones_count}
use Rattle.fleet.proofs.Sizes.{size_same, same_at}
use Rattle.policy.specs.Tables.{index_of, bits_within}

-- a bit of a is a bit of b, where all of them are
pub bit_within : (a b k : ℕ) → bits_within a b ≡ true → bit a k ≡ true → bit b k ≡ true
bit_within a b k h i =
    let e : bit (bit_and a b) k ≡ bit a k = ap (λ (n : ℕ). bit n k) (eqb-true (bit_and a b) a h) in
    let s = and_bit a b k in
    grind arith

-- all bits of a are bits of b, where each of them is
within_bits : (n a b : ℕ) → a < 2 ^ n → ((k : ℕ) → bit a k ≡ true → bit b k ≡ true) → bits_within a b ≡ true
within_bits n a b l f = eq-eqb (bit_and a b) a (same_bits n (bit_and a b) a (omega (arith, and_le_l a b)) l (λ k. let s = and_bit a b k in let h = f k in grind arith))

-- a word has as many ones as members
pub size_ones : (a : ℕ) → a < 2 ^ 64 → size (bit a) ≡ count_ones a
unfolding size
size_ones a l = sym (ones_count 64 a l)

bit_below : (a : ℕ) → a < 2 ^ 64 → Workers (bit a)
bit_below a l k h = go (cases_lt k 64)
  where
    go : (k < 64) ⊎ (64 ≤ k) → k < 64
    go (inl s) = s
    go (inr s) = absurd (both_ways (bit a k) (past_bit 64 a k l s) h)

-- a word within another that has no fewer ones is that word
pub same_ones : (a b : ℕ) → a < 2 ^ 64 → b < 2 ^ 64 → bits_within a b ≡ true → count_ones b ≤ count_ones a → a ≡ b
same_ones a b l m h few = same_bits 64 a b l m (λ k. same_at all k)
  where
    all : bit a ≡ bit b
    all = size_same (bit a) (bit b) (bit_below b m) (λ k. bit_within a b k h) (omega (arith, size_ones a l, size_ones b m))

-- the index of a set

pub index_below : (ws : List ℕ) (Z : Set) → index_of ws Z < 2 ^ length ws
index_below [] Z = omega arith
index_below (w ∷ ws) Z = let i = index_below ws Z in let p = pow-suc 2 (length ws) in grind arith

-- bit k says whether the worker at place k is in the set
pub index_bit : (ws : List ℕ) (Z : Set) (k d : ℕ) → k < length ws → bit (index_of ws Z) k ≡ Z (slice_index_or ws k d)
index_bit [] Z k d l = absurd (omega arith)
index_bit (w ∷ ws) Z zero d l = bit_zero (index_of (w ∷ ws) Z) ∙ grind (arith, nat_tests)
index_bit (w ∷ ws) Z (suc k) d l =
    bit_step (index_of (w ∷ ws) Z) k ∙ ap (λ (n : ℕ). bit n k) half ∙ index_bit ws Z k d (omega arith)
  where
    half : index_of (w ∷ ws) Z / 2 ≡ index_of ws Z
    half = grind arith

-- it has no bit past the workers
pub bit_index : (ws : List ℕ) (Z : Set) (k : ℕ) → bit (index_of ws Z) k ≡ true → k < length ws
bit_index ws Z k h = go (cases_lt k (length ws))
  where
    go : (k < length ws) ⊎ (length ws ≤ k) → k < length ws
    go (inl l) = l
    go (inr l) = absurd (both_ways (bit (index_of ws Z) k) (past_bit (length ws) (index_of ws Z) k (index_below ws Z) l) h)

-- a part has an index within that of the whole
pub index_within : (ws : List ℕ) (Y Z : Set) → Within Y Z → bits_within (index_of ws Y) (index_of ws Z) ≡ true
index_within ws Y Z i = within_bits (length ws) (index_of ws Y) (index_of ws Z) (index_below ws Y) (λ k h.
    let l = bit_index ws Y k h in
    index_bit ws Z k 0 l ∙ i _ (sym (index_bit ws Y k 0 l) ∙ h))
