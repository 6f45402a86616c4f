-- The bits of a word after each operation on words, and how many there are.
use Rattle.std.proofs.Common.{◌≡◌, ℕ, zero, suc, ◌+◌, ◌-◌, ◌*◌, ◌/◌, ◌%◌, ◌^◌, ◌<◌, ◌≤◌, false, cond, not, ◌&&◌, ◌||◌, eqb, ◌⊎◌, sym, refl, ap, ◌∙◌, ap₂, inl, inr, mod-lt, zero-lt-suc, pow-suc, arith}
use mathlib.Core.Path.{fun_ext}
use lib.Dec.{eqb-zero-suc, eqb-suc-zero, eqb-suc-suc}
use lib.Bits.{bit_and, bit_or, or_shr, or_mod, and_shr, and_mod}
use lib.Count.{ones, ones_step}
use Rattle.std.proofs.lemmas.Nat.{shr-shr, one_shl}
use Rattle.std.proofs.lemmas.Bool.{true≢false, false≢true, cases_lt}
use Rattle.fleet.specs.Sets.{Set, count_below}
use Rattle.fleet.specs.Members.{bit}

-- a digit is 0 or 1
digit : (n : ℕ) → (n % 2 ≡ 0) ⊎ (n % 2 ≡ 1)
digit n = go (n % 2) (mod-lt n (zero-lt-suc 1))
  where
    go : (k : ℕ) → k < 2 → (k ≡ 0) ⊎ (k ≡ 1)
    go zero h = inl refl
    go (suc zero) h = inr refl
    go (suc (suc k)) h = absurd (omega arith)

or_digit : (a b : ℕ) → (a ≡ 0) ⊎ (a ≡ 1) → (b ≡ 0) ⊎ (b ≡ 1) → eqb (bit_or a b) 1 ≡ (eqb a 1 || eqb b 1)
or_digit a b (inl p) (inl q) = rw (p, q)
or_digit a b (inl p) (inr q) = rw (p, q)
or_digit a b (inr p) (inl q) = rw (p, q)
or_digit a b (inr p) (inr q) = rw (p, q)

and_digit : (a b : ℕ) → (a ≡ 0) ⊎ (a ≡ 1) → (b ≡ 0) ⊎ (b ≡ 1) → eqb (bit_and a b) 1 ≡ (eqb a 1 && eqb b 1)
and_digit a b (inl p) (inl q) = rw p
and_digit a b (inl p) (inr q) = rw p
and_digit a b (inr p) (inl q) = rw (p, q)
and_digit a b (inr p) (inr q) = rw (p, q)

pub or_bit : (a b w : ℕ) → bit (bit_or a b) w ≡ (bit a w || bit b w)
unfolding bit
or_bit a b w =
    ap (λ (n : ℕ). eqb (n % 2) 1) (or_shr a b w) ∙ ap (λ (n : ℕ). eqb n 1) (or_mod (a / 2 ^ w) (b / 2 ^ w) 1)
    ∙ or_digit (a / 2 ^ w % 2) (b / 2 ^ w % 2) (digit (a / 2 ^ w)) (digit (b / 2 ^ w))

pub and_bit : (a b w : ℕ) → bit (bit_and a b) w ≡ (bit a w && bit b w)
unfolding bit
and_bit a b w =
    ap (λ (n : ℕ). eqb (n % 2) 1) (and_shr a b w) ∙ ap (λ (n : ℕ). eqb n 1) (and_mod (a / 2 ^ w) (b / 2 ^ w) 1)
    ∙ and_digit (a / 2 ^ w % 2) (b / 2 ^ w % 2) (digit (a / 2 ^ w)) (digit (b / 2 ^ w))

pub bit_step : (n w : ℕ) → bit n (suc w) ≡ bit (n / 2) w
unfolding bit
bit_step n w = let e : 1 + w ≡ suc w = omega arith in ap (λ (k : ℕ). eqb (k % 2) 1) (sym (shr-shr n 1 w ∙ ap (λ (k : ℕ). n / 2 ^ k) e))

pub bit_zero : (n : ℕ) → bit n 0 ≡ eqb (n % 2) 1
unfolding bit
bit_zero n = ap (λ (k : ℕ). eqb (k % 2) 1) (omega arith)

pub none_bit : (w : ℕ) → bit 0 w ≡ false
none_bit zero = bit_zero 0
none_bit (suc w) = bit_step 0 w ∙ none_bit w

pub one_bit : (v w : ℕ) → bit (2 ^ v) w ≡ eqb w v
one_bit zero zero = bit_zero 1
one_bit zero (suc w) = bit_step 1 w ∙ none_bit w ∙ sym (eqb-suc-zero w)
one_bit (suc v) zero = bit_zero (2 ^ suc v) ∙ (let e : 2 ^ suc v % 2 ≡ 0 = omega (arith, pow-suc 2 v) in ap (λ (k : ℕ). eqb k 1) e) ∙ sym (eqb-zero-suc v)
one_bit (suc v) (suc w) =
    bit_step (2 ^ suc v) w ∙ (let e : 2 ^ suc v / 2 ≡ 2 ^ v = omega (arith, pow-suc 2 v) in ap (λ (k : ℕ). bit k w) e) ∙ one_bit v w ∙ sym (eqb-suc-suc w v)

pub past_bit : (k n w : ℕ) → n < 2 ^ k → k ≤ w → bit n w ≡ false
past_bit zero n w h l = (let e : n ≡ 0 = omega arith in ap (λ (m : ℕ). bit m w) e) ∙ none_bit w
past_bit (suc k) n zero h l = absurd (omega arith)
past_bit (suc k) n (suc w) h l = bit_step n w ∙ past_bit k (n / 2) w (omega (arith, pow-suc 2 k)) (omega arith)

flip_digit : (a b : ℕ) → (b ≡ 0) ⊎ (b ≡ 1) → a + b ≡ 1 → eqb a 1 ≡ not (eqb b 1)
flip_digit a b (inl p) e = let q : a ≡ 1 = omega arith in rw (p, q)
flip_digit a b (inr p) e = let q : a ≡ 0 = omega arith in rw (p, q)

pub flip_bit : (k n w : ℕ) → n < 2 ^ k → w < k → bit (2 ^ k - 1 - n) w ≡ not (bit n w)
flip_bit zero n w h l = absurd (omega arith)
flip_bit (suc k) n zero h l =
    bit_zero (2 ^ suc k - 1 - n) ∙ flip_digit ((2 ^ suc k - 1 - n) % 2) (n % 2) (digit n) (omega (arith, pow-suc 2 k)) ∙ ap not (sym (bit_zero n))
flip_bit (suc k) n (suc w) h l =
    bit_step (2 ^ suc k - 1 - n) w ∙ (let e : (2 ^ suc k - 1 - n) / 2 ≡ 2 ^ k - 1 - n / 2 = omega (arith, pow-suc 2 k) in ap (λ (m : ℕ). bit m w) e)
    ∙ flip_bit k (n / 2) w (omega (arith, pow-suc 2 k)) (omega arith) ∙ ap not (sym (bit_step n w))

count_front : (k : ℕ) (A : Set) → count_below (suc k) A ≡ cond (A 0) 1 0 + count_below k (λ w. A (suc w))
count_front zero A = omega arith
count_front (suc k) A = ap (λ (m : ℕ). m + cond (A (suc k)) 1 0) (count_front k A) ∙ omega arith

digit_count : (n : ℕ) → (n ≡ 0) ⊎ (n ≡ 1) → n ≡ cond (eqb n 1) 1 0
digit_count n (inl e) = rw e
digit_count n (inr e) = rw e

pub ones_count : (k n : ℕ) → n < 2 ^ k → ones n ≡ count_below k (bit n)
unfolding ones
ones_count zero n h = let e : n ≡ 0 = omega arith in ap ones e
ones_count (suc k) n h =
    ones_step n
    ∙ ap₂ (λ (x y : ℕ). x + y) (digit_count (n % 2) (digit n) ∙ ap (λ b. cond b 1 0) (sym (bit_zero n)))
    (ones_count k (n / 2) (omega (arith, pow-suc 2 k)) ∙ ap (count_below k) (fun_ext (λ w. sym (bit_step n w))))
    ∙ sym (count_front k (bit n))

same_digit : (a b : ℕ) → (a ≡ 0) ⊎ (a ≡ 1) → (b ≡ 0) ⊎ (b ≡ 1) → eqb a 1 ≡ eqb b 1 → a ≡ b
same_digit a b (inl p) (inl q) e = p ∙ sym q
same_digit a b (inl p) (inr q) e = absurd (false≢true (rw (p, q) at e))
same_digit a b (inr p) (inl q) e = absurd (true≢false (rw (p, q) at e))
same_digit a b (inr p) (inr q) e = p ∙ sym q

pub same_bits : (k a b : ℕ) → a < 2 ^ k → b < 2 ^ k → ((w : ℕ) → bit a w ≡ bit b w) → a ≡ b
same_bits zero a b h l e = omega arith
same_bits (suc k) a b h l e =
    let low : a % 2 ≡ b % 2 = same_digit (a % 2) (b % 2) (digit a) (digit b) (sym (bit_zero a) ∙ e 0 ∙ bit_zero b) in
    let high : a / 2 ≡ b / 2 = same_bits k (a / 2) (b / 2) (omega (arith, pow-suc 2 k)) (omega (arith, pow-suc 2 k)) (λ w. sym (bit_step a w) ∙ e (suc w) ∙ bit_step b w) in
    omega arith

-- what `1 << v` and `!` give, at 64 bits

pub shl_bit : (v w : ℕ) → v < 64 → bit (1 * 2 ^ v % 2 ^ 64) w ≡ eqb w v
shl_bit v w h = ap (λ (n : ℕ). bit n w) (one_shl v 64 h) ∙ one_bit v w

pub and_not_bit : (a b w : ℕ) → a < 2 ^ 64 → b < 2 ^ 64 → bit (bit_and a (2 ^ 64 - 1 - b)) w ≡ (bit a w && not (bit b w))
and_not_bit a b w h l = and_bit a (2 ^ 64 - 1 - b) w ∙ go (cases_lt w 64)
  where
    go : (w < 64) ⊎ (64 ≤ w) → (bit a w && bit (2 ^ 64 - 1 - b) w) ≡ (bit a w && not (bit b w))
    go (inl k) = ap (λ x. bit a w && x) (flip_bit 64 b w l k)
    go (inr k) = rw (past_bit 64 a w h k)
