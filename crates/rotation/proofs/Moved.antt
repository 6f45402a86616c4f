-- Where a list of moves takes each worker, on placements and on lists of tenants, and what reversing it does.
use Rattle.std.proofs.Common.{◌≡◌, ℕ, zero, suc, ◌<◌, ◌≤◌, Bool, true, false, cond, eqb, List, [], ◌∷◌, ◌++◌, length, set, Some, None, Option, sym, refl, ap, ◌∙◌, inl, inr, arith, length-set}
use mathlib.Core.Path.{fun_ext}
use lib.Dec.{eqb-suc-suc}
use Rattle.std.proofs.lemmas.Bool.{eqb-true, eq-eqb, ne_eqb, cases_Bool, cases_eq, cases_lt}
use Rattle.fleet.specs.Sets.{Set, Workers}
use Rattle.fleet.specs.Market.{Placement}
use Rattle.fleet.specs.declared.Move.{Move}
use Rattle.fleet.proofs.First.{SomeInj, Some≢None}
use Rattle.matching.specs.Entries.{place}
use Rattle.rotation.specs.Rotation.{or_own}
use Rattle.rotation.specs.Moves.{move_from, only_if, carried, dest, applied, moved, reversed}

abbrev first_some : Option ℕ → Option ℕ → Option ℕ
first_some None o = o
first_some (Some t) o = Some t

dest_append : (r s : List Move) (w : ℕ) → dest (r ++ s) w ≡ first_some (dest r w) (dest s w)
dest_append [] s w = refl
dest_append (k ∷ ks) s w =
    elim (eqb w k.worker) as (λ b. cond b (Some k.to) (dest (ks ++ s) w) ≡ first_some (cond b (Some k.to) (dest ks w)) (dest s w))
    [ true ↦ refl | false ↦ dest_append ks s w ]

-- the moves from x to y of the members of S
module _ (x y : Placement) (S : Set) where
  dest_above : (n w : ℕ) → n ≤ w → dest (carried x y S n) w ≡ None
  unfolding carried
  dest_above zero w h = refl
  dest_above (suc n) w h =
      let k = move_from x y n in
      dest_append (carried x y S n) (only_if (S n) k) w ∙
      rw (dest_above n w (omega arith)) (elim (S n) as (λ b. dest (only_if b k) w ≡ None) [ true ↦ rw (ne_eqb w n (omega arith)) | false ↦ refl ])

  dest_out : (n w : ℕ) → S w ≡ false → dest (carried x y S n) w ≡ None
  unfolding carried
  dest_out zero w h = refl
  dest_out (suc n) w h =
      let k = move_from x y n in
      dest_append (carried x y S n) (only_if (S n) k) w ∙
      rw (dest_out n w h) (elim (cases_eq w n) [
        | inl e ↦ rw (← e) (rw h)
        | inr ne ↦ elim (S n) as (λ b. dest (only_if b k) w ≡ None) [ true ↦ rw (ne_eqb w n ne) | false ↦ refl ]
      ])

  -- each goes to its tenant in y
  pub dest_in : (n w : ℕ) → w < n → S w ≡ true → dest (carried x y S n) w ≡ Some (y w)
  unfolding carried
  dest_in zero w h s = absurd (omega arith)
  dest_in (suc n) w h s =
      let k = move_from x y n in
      dest_append (carried x y S n) (only_if (S n) k) w ∙
      elim (cases_eq w n) [
        | inl e ↦ rw (dest_above n w (omega arith)) (rw (← e) (rw (s, eq-eqb w w refl)))
        | inr ne ↦ rw (dest_in n w (omega arith) s)
      ]

  -- and nobody else goes
  pub dest_some : (n w t : ℕ) → dest (carried x y S n) w ≡ Some t → (S w ≡ true) × (t ≡ y w)
  dest_some n w t e = elim (cases_Bool (S w)) [
    | inr f ↦ absurd (Some≢None (sym e ∙ dest_out n w f))
    | inl s ↦ elim (cases_lt w n) [
      | inl h ↦ (s, SomeInj (sym e ∙ dest_in n w h s))
      | inr h ↦ absurd (Some≢None (sym e ∙ dest_above n w h))
    ]
  ]

  -- so they lead to y, where they move someone
  pub applied_carried : Workers S → (w : ℕ) → applied (carried x y S 64) x w ≡ cond (S w) (y w) (x w)
  applied_carried small w = at (S w) refl
    where
      at : (b : Bool) → S w ≡ b → or_own (x w) (dest (carried x y S 64) w) ≡ cond (S w) (y w) (x w)
      at true s = rw (dest_in 64 w (small w s) s, s)
      at false s = rw (dest_out 64 w s, s)

-- each move leaves from where x has its worker
abbrev pub Leaves : Placement → List Move → Type 0
Leaves x [] = Unit {0}
Leaves x (k ∷ ks) = (x k.worker ≡ k.from) × Leaves x ks

-- the workers are below n
abbrev pub Fits : ℕ → List Move → Type 0
Fits n [] = Unit {0}
Fits n (k ∷ ks) = (k.worker < n) × Fits n ks

leaves_append : (x : Placement) (r s : List Move) → Leaves x r → Leaves x s → Leaves x (r ++ s)
leaves_append x [] s l k = k
leaves_append x (a ∷ r) s l k = (l.0, leaves_append x r s l.1 k)

fits_append : (n : ℕ) (r s : List Move) → Fits n r → Fits n s → Fits n (r ++ s)
fits_append n [] s l k = k
fits_append n (a ∷ r) s l k = (l.0, fits_append n r s l.1 k)

pub leaves_carried : (x y : Placement) (S : Set) (n : ℕ) → Leaves x (carried x y S n)
unfolding carried
leaves_carried x y S zero = tt
leaves_carried x y S (suc n) =
    leaves_append x (carried x y S n) (only_if (S n) (move_from x y n)) (leaves_carried x y S n)
    (elim (S n) as (λ b. Leaves x (only_if b (move_from x y n))) [ true ↦ (refl, tt) | false ↦ tt ])

pub fits_carried : (x y : Placement) (S : Set) (bound n : ℕ) → n ≤ bound → Fits bound (carried x y S n)
unfolding carried
fits_carried x y S bound zero h = tt
fits_carried x y S bound (suc n) h =
    fits_append bound (carried x y S n) (only_if (S n) (move_from x y n)) (fits_carried x y S bound n (omega arith))
    (elim (S n) as (λ b. Fits bound (only_if b (move_from x y n))) [ true ↦ (h, tt) | false ↦ tt ])

pub length_reversed : (r : List Move) → length (reversed r) ≡ length r
length_reversed [] = refl
length_reversed (k ∷ ks) = ap suc (length_reversed ks)

pub fits_reversed : (n : ℕ) (r : List Move) → Fits n r → Fits n (reversed r)
fits_reversed n [] f = tt
fits_reversed n (k ∷ ks) f = (f.0, fits_reversed n ks f.1)

-- back where they came from
pub applied_reversed : (x : Placement) (r : List Move) → Leaves x r → (w : ℕ) → applied (reversed r) (applied r x) w ≡ x w
applied_reversed x [] l w = refl
applied_reversed x (k ∷ ks) l w = elim (cases_Bool (eqb w k.worker)) [
  | inl e ↦ rw e (sym l.0 ∙ ap x (sym (eqb-true w k.worker e)))
  | inr e ↦ rw e (applied_reversed x ks l.1 w)
]

-- the same on a list of tenants

place_set : (l : List ℕ) (i v w : ℕ) → i < length l → place (set l i v) w ≡ cond (eqb w i) v (place l w)
place_set [] i v w h = absurd (omega arith)
place_set (a ∷ l) zero v zero h = refl
place_set (a ∷ l) zero v (suc w) h = rw (ne_eqb (suc w) 0 (omega arith))
place_set (a ∷ l) (suc i) v zero h = rw (ne_eqb 0 (suc i) (omega arith))
place_set (a ∷ l) (suc i) v (suc w) h = rw eqb-suc-suc (place_set l i v w (omega arith))

-- moves keep the list's length
pub length_moved : (r : List Move) (l : List ℕ) → length (moved r l) ≡ length l
length_moved [] l = refl
length_moved (k ∷ ks) l = length-set (moved ks l) k.worker k.to ∙ length_moved ks l

-- and place each worker where they take it
pub place_moved : (r : List Move) (l : List ℕ) (w : ℕ) → Fits (length l) r → place (moved r l) w ≡ applied r (place l) w
place_moved [] l w f = refl
place_moved (k ∷ ks) l w f =
    place_set (moved ks l) k.worker k.to w (rw (length_moved ks l) f.0) ∙
    elim (eqb w k.worker) as (λ b. cond b k.to (place (moved ks l) w) ≡ or_own (place l w) (cond b (Some k.to) (dest ks w)))
    [ true ↦ refl | false ↦ place_moved ks l w f.1 ]

-- lists of one length that place everyone alike are one
pub same_list : (k l : List ℕ) → length k ≡ length l → ((w : ℕ) → place k w ≡ place l w) → k ≡ l
same_list [] [] e h = refl
same_list [] (b ∷ l) e h = absurd (omega arith)
same_list (a ∷ k) [] e h = absurd (omega arith)
same_list (a ∷ k) (b ∷ l) e h =
    let hd : a ≡ b = h 0 in
    let tl : k ≡ l = same_list k l (omega arith) (λ w. h (suc w)) in cc

-- moves and then the moves back leave a list as it was
pub moved_reversed : (r : List Move) (l : List ℕ) → Fits (length l) r → Leaves (place l) r → moved (reversed r) (moved r l) ≡ l
moved_reversed r l fits leaves =
    same_list (moved (reversed r) (moved r l)) l (length_moved (reversed r) (moved r l) ∙ length_moved r l)
    (λ w.
    place_moved (reversed r) (moved r l) w (rw (length_moved r l) (fits_reversed (length l) r fits)) ∙
    ap (λ (x : Placement). applied (reversed r) x w) (fun_ext (λ v. place_moved r l v fits)) ∙ applied_reversed (place l) r leaves w)
