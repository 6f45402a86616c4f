-- A list of moves as a rotation at a placement: where it leads, and that one apart from it stays a rotation.
use Rattle.std.proofs.Common.{◌≡◌, ℕ, zero, suc, ◌<◌, ◌≤◌, true, ◌⊎◌, List, [], ◌∷◌, ◌++◌, Some, None, Option, sym, refl, ap, ◌∙◌, ap₂, inl, inr, arith}
use mathlib.Core.Path.{fun_ext}
use Rattle.std.proofs.lemmas.Bool.{eq-eqb, ne_eqb, cases_Bool, cases_eq, cond-false}
use Rattle.fleet.specs.Sets.{Set}
use Rattle.fleet.specs.Market.{Market, Placement, rank, depth}
use Rattle.fleet.proofs.Sizes.{false_since}
use Rattle.policy.specs.Choice.{Policy}
use Rattle.fleet.specs.declared.Move.{Move}
use Rattle.fleet.proofs.First.{Some≢None}
use Rattle.matching.specs.Stable.{Given, Stable}
use Rattle.matching.specs.Stepping.{step}
use Rattle.rotation.specs.Rotation.{or_own, target, after}
use Rattle.rotation.specs.Moves.{only_if, carried, moves, Rotates, dest, applied}
use Rattle.rotation.proofs.Cycles.{leads, displaces, cycle_workers, one_cycle}
use Rattle.rotation.proofs.Applied.{after_stable}
use Rattle.rotation.proofs.Commute.{same_cycle, same_step}
use Rattle.rotation.proofs.Moved.{dest_in, dest_some, applied_carried, Leaves, Fits, leaves_carried, fits_carried}

-- r and s move different workers
abbrev pub Apart : List Move → List Move → Type 0
Apart r s = (w t : ℕ) → dest r w ≡ Some t → dest s w ≡ None

pub apart_sym : (r s : List Move) → Apart r s → Apart s r
apart_sym r s a w t e = at (dest r w) refl
  where
    at : (o : Option ℕ) → dest r w ≡ o → dest r w ≡ None
    at None d = d
    at (Some u) d = absurd (Some≢None (sym e ∙ a w u d))

-- some worker is moved by both, or none is
pub shared : (r s : List Move) → ((w : ℕ) × (t : ℕ) × (u : ℕ) × (dest r w ≡ Some t) × (dest s w ≡ Some u)) ⊎ Apart r s
shared [] s = inr (λ w t e. absurd (Some≢None (sym e)))
shared (k ∷ ks) s = at (dest s k.worker) refl (shared ks s)
  where
    at : (o : Option ℕ) → dest s k.worker ≡ o → ((w : ℕ) × (t : ℕ) × (u : ℕ) × (dest ks w ≡ Some t) × (dest s w ≡ Some u)) ⊎ Apart ks s →
        ((w : ℕ) × (t : ℕ) × (u : ℕ) × (dest (k ∷ ks) w ≡ Some t) × (dest s w ≡ Some u)) ⊎ Apart (k ∷ ks) s
    at (Some u) e ih = inl (k.worker, k.to, u, rw (eq-eqb k.worker k.worker refl), e)
    at None e (inl (w, t, u, p, q)) = inl (w, t, u, rw (ne_eqb w k.worker (λ same. Some≢None (sym q ∙ ap (dest s) same ∙ e))) p, q)
    at None e (inr a) =
        inr (λ w t d. elim (cases_eq w k.worker) [ inl same ↦ ap (dest s) same ∙ e | inr ne ↦ a w t (rw (ne_eqb w k.worker ne) at d) ])

-- then their order does not matter
pub applied_swap : (r s : List Move) (x : Placement) → Apart r s → applied s (applied r x) ≡ applied r (applied s x)
applied_swap r s x a = fun_ext λ w. at w (dest r w) refl
  where
    at : (w : ℕ) (o : Option ℕ) → dest r w ≡ o → or_own (or_own (x w) (dest r w)) (dest s w) ≡ or_own (or_own (x w) (dest s w)) (dest r w)
    at w None e = rw e
    at w (Some t) e = rw (e, a w t e)

target_same : (m : Market) (C D : Policy) (x y : Placement) (w : ℕ) → y w ≡ x w → step m D y w ≡ step m C x w → target m D y w ≡ target m C x w
unfolding target
target_same m C D x y w e f = ap₂ or_own e f

pub carried_same : (x y x' y' : Placement) (S : Set) → ((w : ℕ) → S w ≡ true → (x w ≡ x' w) × (y w ≡ y' w)) → (n : ℕ) → carried x y S n ≡ carried x' y' S n
unfolding carried
carried_same x y x' y' S h zero = refl
carried_same x y x' y' S h (suc n) =
    ap₂ (λ (a b : List Move). a ++ b) (carried_same x y x' y' S h n) (elim (cases_Bool (S n)) [
      | inl e ↦ ap (λ (k : Move). only_if (S n) k) (λ i. record { worker = n; from = (h n e).0 i; to = (h n e).1 i })
      | inr e ↦ rw e
    ])

-- members that move alike at two placements, under two policies, have one list of moves
pub moves_same : (m : Market) (C D : Policy) (x y : Placement) (S : Set) → ((w : ℕ) → S w ≡ true → (y w ≡ x w) × (step m D y w ≡ step m C x w)) →
    moves m D y S ≡ moves m C x S
moves_same m C D x y S h = carried_same y (target m D y) x (target m C x) S (λ w s. let (a, b) = h w s in (a, target_same m C D x y w a b)) 64

-- one rotation
module _ {m : Market} {C : Policy} {x : Placement} {r : List Move} (rot : Rotates m C x r) where
  -- it leads to the placement after the rotation
  pub applied_after : applied r x ≡ after m C x rot.group
  applied_after = ap (λ q. applied q x) rot.listed ∙ fun_ext (applied_carried x (target m C x) rot.group (cycle_workers rot.cycle))

  -- it moves just the workers of the rotation, each to its step
  pub dest_group : (w t : ℕ) → dest r w ≡ Some t → (rot.group w ≡ true) × (t ≡ target m C x w)
  dest_group w t e = dest_some x (target m C x) rot.group 64 w t (sym (ap (λ q. dest q w) rot.listed) ∙ e)

  pub group_dest : (w : ℕ) → rot.group w ≡ true → dest r w ≡ Some (target m C x w)
  group_dest w s = ap (λ q. dest q w) rot.listed ∙ dest_in x (target m C x) rot.group 64 w (cycle_workers rot.cycle w s) s

  -- it moves someone
  pub rotates_some : (w : ℕ) × (t : ℕ) × (dest r w ≡ Some t)
  rotates_some = let w = rot.cycle.leader in (w, target m C x w, group_dest w (leads rot.cycle))

  pub rotates_leaves : Leaves x r
  rotates_leaves = rw rot.listed (leaves_carried x (target m C x) rot.group 64)

  pub rotates_fits : Fits 64 r
  rotates_fits = rw rot.listed (fits_carried x (target m C x) rot.group 64 64 (omega arith))

  -- it takes its workers down their lists
  pub rotates_down : (w t : ℕ) → dest r w ≡ Some t → depth m x w < rank (m.list w) t
  rotates_down w t d = let g = dest_group w t d in rw g.1 (displaces rot.cycle w g.0).steps.down

  -- so nobody is better off
  pub rotates_falls : (w : ℕ) → depth m x w ≤ depth m (applied r x) w
  rotates_falls w = at (dest r w) refl
    where
      at : (o : Option ℕ) → dest r w ≡ o → depth m x w ≤ rank (m.list w) (or_own (x w) (dest r w))
      at None e = rw e (omega arith)
      at (Some t) e = rw e (omega (arith, rotates_down w t e))

  -- rotations at x with a common worker are one
  pub rotates_same : {s : List Move} → Rotates m C x s → (w t u : ℕ) → dest r w ≡ Some t → dest s w ≡ Some u → r ≡ s
  rotates_same rot' w t u d d' =
      rot.listed ∙ ap (λ S. moves m C x S) (one_cycle rot.cycle rot'.cycle w (dest_group w t d).0 (rotates_group rot' w u d')) ∙ sym rot'.listed
    where
      rotates_group : {s : List Move} (rot : Rotates m C x s) (w t : ℕ) → dest s w ≡ Some t → rot.group w ≡ true
      rotates_group rot w t e = (dest_some x (target m C x) rot.group 64 w t (sym (ap (λ q. dest q w) rot.listed) ∙ e)).0

module _ {m : Market} {C : Policy} (given : Given m C) where
  -- and the placement that it leads to is stable
  pub rotates_stable : {x : Placement} {r : List Move} → Stable m C x → Rotates m C x r → Stable m C (applied r x)
  rotates_stable st rot = rw (applied_after rot) (after_stable given st rot.cycle)

  -- a rotation apart from r stays one after r
  pub rotates_stays : {x : Placement} {r s : List Move} → Stable m C x → Rotates m C x r → Rotates m C x s → Apart r s → Rotates m C (applied r x) s
  rotates_stays {x} {r} {s} st rot rot' apart =
      rw (applied_after rot)
      (record {
        group = rot'.group;
        cycle = same_cycle given st rot.cycle rot'.cycle off;
        listed = rot'.listed ∙ sym (moves_same m C C x (after m C x rot.group) rot'.group same);
      })
    where
      off : (w : ℕ) → rot.group w ≡ true → rot'.group w ≡ true → ⊥
      off w h k = Some≢None (sym (group_dest rot' w k) ∙ apart w (target m C x w) (group_dest rot w h))

      same : (w : ℕ) → rot'.group w ≡ true → (after m C x rot.group w ≡ x w) × (step m C (after m C x rot.group) w ≡ step m C x w)
      same w k = (cond-false (rot.group w) (target m C x w) (x w) (false_since (rot.group w) (λ h. off w h k)), same_step given st rot.cycle rot'.cycle off w k)
