-- The entries of a table of n numbers, and the placement that a table gives.
use Rattle.std.proofs.Common.{◌≡◌, ℕ, zero, suc, ◌<◌, ◌≤◌, List, [], ◌∷◌, length, get_or, unwrap_or, sym, refl, ap, ◌∙◌, inl, inr, arith}
use mathlib.Core.Path.{fun_ext}
use lib.ListN.{get_or-append}
use Rattle.std.specs.List.{slice_get}
use Rattle.std.proofs.lemmas.List.{get_or_push, length_push, get_or_past, ext_get_or}
use Rattle.std.proofs.lemmas.Bool.{cases_lt}
use Rattle.fleet.specs.Market.{Placement}
use Rattle.matching.specs.Entries.{tabulate, place}

pub length_tabulate : (n : ℕ) (f : ℕ → ℕ) → length (tabulate n f) ≡ n
unfolding tabulate
length_tabulate zero f = refl
length_tabulate (suc n) f = omega (arith, length_push (tabulate n f) (f n), length_tabulate n f)

pub get_d_tabulate : (n : ℕ) (f : ℕ → ℕ) (w d : ℕ) → w < n → get_or (tabulate n f) w d ≡ f w
unfolding tabulate
get_d_tabulate zero f w d l = absurd (omega arith)
get_d_tabulate (suc n) f w d l = elim (cases_lt w n) [
  | inl q ↦ get_or-append (tabulate n f) (f n ∷ []) d w (omega (arith, length_tabulate n f)) ∙ get_d_tabulate n f w d q
  | inr q ↦ (let e : n ≡ w = omega arith in get_or_push (tabulate n f) (f n) d w (length_tabulate n f ∙ e) ∙ ap f e)
]

pub tabulate_past : (n : ℕ) (f : ℕ → ℕ) (w d : ℕ) → n ≤ w → get_or (tabulate n f) w d ≡ d
tabulate_past n f w d l = get_or_past (tabulate n f) w d (omega (arith, length_tabulate n f))

-- what stands at a place, or else d
pub value_nth : (l : List ℕ) (i d : ℕ) → unwrap_or (slice_get l i) d ≡ get_or l i d
value_nth [] i d = refl
value_nth (x ∷ l) zero d = refl
value_nth (x ∷ l) (suc i) d = value_nth l i d

-- the placement that the table of a placement gives
pub place_tabulate : (x : Placement) → ((w : ℕ) → 64 ≤ w → x w ≡ 255) → place (tabulate 64 x) ≡ x
place_tabulate x past = fun_ext (λ w. elim (cases_lt w 64) [
  | inl q ↦ get_d_tabulate 64 x w 255 q
  | inr q ↦ tabulate_past 64 x w 255 q ∙ sym (past w q)
])

-- a list of 64 tenants is the table of its placement
pub table_of_place : (l : List ℕ) → length l ≡ 64 → l ≡ tabulate 64 (place l)
table_of_place l n = ext_get_or 255 l (tabulate 64 (place l)) (n ∙ sym (length_tabulate 64 (place l))) (λ w h. sym (get_d_tabulate 64 (place l) w 255 (omega arith)))
