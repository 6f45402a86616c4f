-- Lists of different numbers below a bound: how long they are, and what their tests say of each place.
use Rattle.std.proofs.Common.{◌≡◌, ℕ, zero, suc, ◌<◌, ◌≤◌, Bool, true, false, not, eqb, ltb, List, [], ◌∷◌, length, get_or, take, Some, None, Option, refl, arith, take-suc}
use lib.Seq.{take-length}
use Rattle.std.proofs.lemmas.Bool.{both_ways, not-true, lt-ltb, ne_eqb, and_parts, and_from, or_from}
use Rattle.fleet.specs.Sets.{among, all_under}
use Rattle.fleet.specs.Market.{different}
use Rattle.fleet.proofs.Different.{among_getD, different_push, room_left, under_each}
use Rattle.policy.specs.Search.{seek, Least}
use Rattle.policy.specs.Searches.{seek_least}
use Rattle.sheet.specs.Fields.{repeated}
use Rattle.sheet.specs.Sheets.{is_list}

-- a search finds nothing exactly where no number passes

pub seek_none : (n : ℕ) (p : ℕ → Bool) → ((i : ℕ) → i < n → p i ≡ false) → seek n 0 p ≡ None
seek_none n p none = go (seek n 0 p) (seek_least n p)
  where
    go : (o : Option ℕ) → Least n p o → o ≡ None
    go None h = refl
    go (Some z) (l, h, _) = absurd (both_ways (p z) (none z l) h)

pub none_passes : (n : ℕ) (p : ℕ → Bool) → seek n 0 p ≡ None → (i : ℕ) → i < n → p i ≡ false
none_passes n p e = rw e at (seek_least n p)

-- the numbers are all below n exactly where each place has one that is

pub under_at : (n : ℕ) (l : List ℕ) → all_under n l ≡ true → (i : ℕ) → i < length l → get_or l i 0 < n
under_at n l a i h = under_each n l a (get_or l i 0) (among_getD l i 0 h)

pub at_under : (n : ℕ) (l : List ℕ) → ((i : ℕ) → i < length l → get_or l i 0 < n) → all_under n l ≡ true
at_under n [] f = refl
at_under n (x ∷ xs) f = and_from (ltb x n) (all_under n xs) (lt-ltb x n (f 0 (omega arith))) (at_under n xs (λ i h. f (suc i) (omega arith)))

-- numbers are different exactly where none stands there before

apart_before : (l : List ℕ) → different l ≡ true → (i : ℕ) → i < length l → among (take i l) (get_or l i 0) ≡ false
apart_before [] d i h = absurd (omega arith)
apart_before (x ∷ xs) d zero h = refl
apart_before (x ∷ xs) d (suc i) h =
    let p = and_parts (not (among xs x)) (different xs) d in
    let y = get_or xs i 0 in
    let there = among_getD xs i 0 (omega arith) in
    let other = ne_eqb x y (λ e. both_ways (among xs x) (not-true (among xs x) p.0) (rw e there)) in
    or_from (eqb x y) (among (take i xs) y) other (apart_before xs p.1 i (omega arith))

before_apart : (l : List ℕ) → ((i : ℕ) → i < length l → among (take i l) (get_or l i 0) ≡ false) → different l ≡ true
before_apart l new = rw take-length at (go (length l) (omega arith))
  where
    go : (i : ℕ) → i ≤ length l → different (take i l) ≡ true
    go zero h = refl
    go (suc i) h = rw (take-suc l i 0 (omega arith)) (different_push (take i l) (get_or l i 0) (go i (omega arith)) (new i (omega arith)))

pub none_repeated : (l : List ℕ) → different l ≡ true → repeated l ≡ None
none_repeated l d = seek_none (length l) (λ i. among (take i l) (get_or l i 0)) (apart_before l d)

pub repeated_none : (l : List ℕ) → repeated l ≡ None → different l ≡ true
repeated_none l e = before_apart l (none_passes (length l) (λ i. among (take i l) (get_or l i 0)) e)

-- there are no more different numbers below n than n
pub short_list : (n : ℕ) (l : List ℕ) → is_list n l ≡ true → length l ≤ n
short_list n [] h = omega arith
short_list n (x ∷ xs) h =
    let p = and_parts (all_under n (x ∷ xs)) (different (x ∷ xs)) h in
    let q = and_parts (ltb x n) (all_under n xs) p.0 in
    let r = and_parts (not (among xs x)) (different xs) p.1 in
    room_left n xs x r.1 (under_each n xs q.1) (under_at n (x ∷ xs) p.0 0 (omega arith)) (not-true (among xs x) r.0)
