-- Rotations that lie one behind the other: one more, one less, and those that stay.
use Rattle.std.proofs.Common.{◌≡◌, ℕ, zero, suc, ◌+◌, ◌-◌, ◌<◌, ◌≤◌, List, [], ◌∷◌, ◌++◌, length, get_or, take, drop, Some, sum_by, sum, sym, refl, ap, ◌∙◌, ap₂, arith, length-append, length-drop, length-take}
use Rattle.std.specs.List.{slice_get}
use Rattle.std.proofs.lemmas.List.{drop-drop, take-take, drop-take, take_at, drop_at}
use Rattle.std.proofs.lemmas.List.Sums.{sum_by-cons}
use Rattle.fleet.specs.declared.Move.{Move}
use Rattle.runs.specs.States.{Rotation}
use Rattle.board.specs.Pieces.{piece, cut}

pub length_piece : (ms : List Move) (at size : ℕ) → at + size ≤ length ms → length (piece at size ms) ≡ size
length_piece ms at size h = length-take size (drop at ms) ∙ (let n = length-drop at ms in omega arith)

pub cut_none : (ms : List Move) → cut [] ms ≡ []
unfolding cut
cut_none ms = refl

-- one size more
pub cut_push : (ns : List ℕ) (n : ℕ) (ms : List Move) → cut (ns ++ (n ∷ [])) ms ≡ cut ns ms ++ (piece (sum ns) n ms ∷ [])
unfolding cut
cut_push [] n ms = refl
cut_push (h ∷ hs) n ms =
    ap (λ (rs : List Rotation). take h ms ∷ rs)
    (cut_push hs n (drop h ms) ∙
    ap (λ (d : List Move). cut hs (drop h ms) ++ (take n d ∷ [])) (drop-drop (sum hs) h ms ∙ ap (λ (i : ℕ). drop i ms) (sym (sum_by-cons (λ (x : ℕ). x) h hs))))

pub length_cut : (ns : List ℕ) (ms : List Move) → length (cut ns ms) ≡ length ns
unfolding cut
length_cut [] ms = refl
length_cut (h ∷ hs) ms = ap suc (length_cut hs (drop h ms))

-- the rotation at a place
pub cut_at : (ns : List ℕ) (ms : List Move) (i : ℕ) → i < length ns → slice_get (cut ns ms) i ≡ Some (piece (sum (take i ns)) (get_or ns i 0) ms)
unfolding cut
cut_at [] ms i h = absurd (omega arith)
cut_at (n ∷ ns) ms zero h = refl
cut_at (n ∷ ns) ms (suc i) h =
    cut_at ns (drop n ms) i (omega arith) ∙
    ap (λ (d : List Move). Some (take (get_or ns i 0) d)) (drop-drop (sum (take i ns)) n ms ∙ ap (λ (k : ℕ). drop k ms) (sym (sum_by-cons (λ (x : ℕ). x) n (take i ns))))

-- all moves are in the rotations
pub cut_moves : (ns : List ℕ) (ms : List Move) → sum ns ≤ length ms → sum_by length (cut ns ms) ≡ sum ns
unfolding cut
cut_moves [] ms h = refl
cut_moves (n ∷ ns) ms h =
    let c : sum (n ∷ ns) ≡ n + sum ns = sum_by-cons (λ (x : ℕ). x) n ns in
    let k = cut_moves ns (drop n ms) (omega (arith, length-drop n ms)) in
    sum_by-cons length (take n ms) (cut ns (drop n ms)) ∙ omega (arith, length-take n ms)

-- the rotations look at no more than their moves
pub cut_same : (ns : List ℕ) (k : ℕ) (ms js : List Move) → take k ms ≡ take k js → sum ns ≤ k → cut ns ms ≡ cut ns js
unfolding cut
cut_same [] k ms js e h = refl
cut_same (n ∷ ns) k ms js e h =
    let c : sum (n ∷ ns) ≡ n + sum ns = sum_by-cons (λ (x : ℕ). x) n ns in
    let q : k ≡ n + (k - n) = omega arith in
    let first : take n ms ≡ take n js = sym (take-take n k ms (omega arith)) ∙ ap (take n) e ∙ take-take n k js (omega arith) in
    let rest : take (k - n) (drop n ms) ≡ take (k - n) (drop n js) =
    sym (drop-take n (k - n) ms) ∙ ap (λ (i : ℕ). drop n (take i ms)) (sym q) ∙ ap (drop n) e ∙ ap (λ (i : ℕ). drop n (take i js)) q ∙ drop-take n (k - n) js in
    ap₂ (λ (a : Rotation) (b : List Rotation). a ∷ b) first (cut_same ns (k - n) (drop n ms) (drop n js) rest (omega arith))

-- what is laid behind the first `at` moves is there, and they stay
module _ (old ms new : List Move) (at : ℕ) (h : at ≤ length old) (e : new ≡ take at old ++ (ms ++ drop (at + length ms) old)) where
  front : length (take at old) ≡ at
  front = length-take at old ∙ omega arith

  pub laid : piece at (length ms) new ≡ ms
  laid =
      ap (λ (x : List Move). piece at (length ms) x) e ∙
      ap (take (length ms)) (drop_at (take at old) (ms ++ drop (at + length ms) old) at front) ∙ take_at ms (drop (at + length ms) old) (length ms) refl

  pub behind : (ns : List ℕ) → sum ns ≡ at → cut ns new ≡ cut ns old
  behind ns q =
      cut_same ns at new old (ap (take at) e ∙ take_at (take at old) (ms ++ drop (at + length ms) old) at front) (omega arith)

  pub length_laid : at + length ms ≤ length old → length new ≡ length old
  length_laid k =
      ap length e ∙ length-append (take at old) (ms ++ drop (at + length ms) old) ∙
      (let a = length-append ms (drop (at + length ms) old) in let b = length-drop (at + length ms) old in omega (arith, front))
