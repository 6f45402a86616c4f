-- Lists of different numbers: what stands where, one number more at the end, and that there are no more of them than numbers.
use Rattle.std.proofs.Common.{◌≡◌, ℕ, zero, suc, ◌+◌, ◌<◌, ◌≤◌, true, false, not, ◌&&◌, ◌||◌, eqb, ltb, List, [], ◌∷◌, ◌++◌, length, get_or, drop, refl, ap, ◌∙◌, ⊎_elim, arith}
use Rattle.std.proofs.lemmas.List.{at_drop_more}
use Rattle.std.proofs.lemmas.Bool.{cases_lt, both_ways, eq-eqb, ne_eqb, lt-ltb, and_parts, and_from, or_parts, or_right, not-true, not_from_false, cond-true, cond-false}
use Rattle.std.proofs.lemmas.Bool.Decides.{nat_tests}
use Rattle.fleet.specs.Sets.{among, all_under}
use Rattle.fleet.specs.Market.{rank, On, different}
use Rattle.fleet.proofs.Sizes.{pigeonhole}

-- the list has what stands at a place of it
pub among_getD : (l : List ℕ) (i d : ℕ) → i < length l → among l (get_or l i d) ≡ true
among_getD [] i d h = absurd (omega arith)
among_getD (x ∷ xs) zero d h = grind (arith, nat_tests)
among_getD (x ∷ xs) (suc i) d h = or_right (eqb x (get_or xs i d)) (among xs (get_or xs i d)) (among_getD xs i d (omega arith))

-- the list has t exactly where t's rank is below its length
pub among_on : (l : List ℕ) (t : ℕ) → ltb (rank l t) (length l) ≡ among l t
among_on [] t = grind (arith, nat_tests)
among_on (x ∷ xs) t = let i = among_on xs t in grind (arith, nat_tests)

pub on_among : (l : List ℕ) (t : ℕ) → On l t → among l t ≡ true
on_among l t o = let e = among_on l t in grind (arith, nat_tests)

-- one number more at the end
pub among_push : (l : List ℕ) (v t : ℕ) → among (l ++ (v ∷ [])) t ≡ (among l t || eqb v t)
among_push [] v t = grind (arith, nat_tests)
among_push (x ∷ xs) v t = let i = among_push xs v t in grind (arith, nat_tests)

pub different_push : (l : List ℕ) (v : ℕ) → different l ≡ true → among l v ≡ false → different (l ++ (v ∷ [])) ≡ true
different_push [] v d o = refl
different_push (x ∷ xs) v d o =
    let p = and_parts (not (among xs x)) (different xs) d in
    let q = or_parts (eqb x v) (among xs v) o in
    let i = different_push xs v p.1 q.1 in
    let a = among_push xs v x in
    let b = p.0 in
    let e = q.0 in
    grind (arith, nat_tests)

-- what stands at place i of different numbers has rank i
pub rank_same : (l : List ℕ) → different l ≡ true → (i d : ℕ) → i < length l → rank l (get_or l i d) ≡ i
rank_same [] e i d h = absurd (omega arith)
rank_same (x ∷ xs) e zero d h = cond-true (eqb x x) 0 (suc (rank xs x)) (eq-eqb x x refl)
rank_same (x ∷ xs) e (suc i) d h =
    let p = and_parts (not (among xs x)) (different xs) e in
    let y = get_or xs i d in
    let there = among_getD xs i d (omega arith) in
    let n : eqb x y ≡ false = ne_eqb x y (λ k. both_ways (among xs x) (not-true (among xs x) p.0) (rw k there)) in
    cond-false (eqb x y) 0 (suc (rank xs y)) n ∙ ap suc (rank_same xs p.1 i d (omega arith))

-- different numbers below n that lack one below n are fewer than n
pub room_left : (n : ℕ) (l : List ℕ) (v : ℕ) → different l ≡ true → ((t : ℕ) → among l t ≡ true → t < n) → v < n → among l v ≡ false → length l < n
room_left n l v d below small o = ⊎_elim (λ (k : length l < n). k) (λ (k : n ≤ length l). absurd (full k)) (cases_lt (length l) n)
  where
    apart : different (v ∷ l) ≡ true
    apart = and_from (not (among l v)) (different l) (not_from_false (among l v) o) d

    entry : (i : ℕ) → i ≤ length l → get_or (v ∷ l) i 0 < n
    entry zero h = small
    entry (suc i) h = below (get_or l i 0) (among_getD l i 0 (omega arith))

    full : n ≤ length l → ⊥
    full k =
        let p = pigeonhole n (λ i. get_or (v ∷ l) i 0) (λ i h. entry i (omega arith)) in
        let less = p.2 in
        let last = p.3 in
        let a = rank_same (v ∷ l) apart p.0 0 (omega arith) in
        let b = rank_same (v ∷ l) apart p.1 0 (omega arith) in
        omega (arith, ap (rank (v ∷ l)) p.4)

-- the test that all are below n, and what it tells
pub under_each : (n : ℕ) (l : List ℕ) → all_under n l ≡ true → (t : ℕ) → among l t ≡ true → t < n
under_each n [] a t h = absurd (both_ways (among [] t) refl h)
under_each n (x ∷ xs) a t h =
    let p = and_parts (ltb x n) (all_under n xs) a in
    let b = p.0 in
    let i = under_each n xs p.1 t in
    grind (arith, nat_tests)

pub under_from : (n : ℕ) (l : List ℕ) → ((t : ℕ) → among l t ≡ true → t < n) → all_under n l ≡ true
under_from n [] f = refl
under_from n (x ∷ xs) f =
    let b = f x in
    let i = under_from n xs (λ t h. f t (or_right (eqb x t) (among xs t) h)) in
    grind (arith, nat_tests)

-- the test on what is left of a list, one place on

pub under_more : (n : ℕ) (l : List ℕ) (i : ℕ) → i < length l → get_or l i 0 < n → all_under n (drop i l) ≡ all_under n (drop (i + 1) l)
under_more n l i h k = at_drop_more (all_under n) l i 0 h ∙ ap (λ t. t && all_under n (drop (i + 1) l)) (lt-ltb (get_or l i 0) n k)
