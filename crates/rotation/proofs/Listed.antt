-- The moves that `rotation_at` finds are those of all workers that follow, by rising number.
use Rattle.std.proofs.Common.{◌≡◌, ℕ, zero, suc, ◌<◌, ◌≤◌, Bool, true, false, ◌⊎◌, ◌↔◌, List, [], ◌∷◌, ◌++◌, Some, sym, refl, ap, ◌∙◌, subst, inl, inr, arith}
use Rattle.std.proofs.lemmas.Bool.{cases_eq}
use Rattle.fleet.specs.Sets.{Set}
use Rattle.fleet.specs.Market.{Market, Placement}
use Rattle.policy.specs.Choice.{Policy}
use Rattle.fleet.specs.declared.Move.{Move}
use Rattle.rotation.specs.Rotation.{Cycle, target}
use Rattle.rotation.specs.Moves.{move_from, only_if, carried, moves, rotation_at}
use Rattle.rotation.specs.Laws.{Member, Rising, MovesOn, FindsRotation}
use Rattle.rotation.proofs.Steps.{target_is}
use Rattle.rotation.proofs.Cycles.{cycle_workers, has_step}
use Rattle.rotation.proofs.Moved.{Fits, fits_carried}
use Rattle.rotation.proofs.Walks.{rotation_found, found_on, missing_off, off_missing}

rising_weaker : (a n : ℕ) (r : List Move) → a ≤ n → Rising n r → Rising a r
rising_weaker a n [] h p = tt
rising_weaker a n (k ∷ ks) h p = let q = p.0 in (omega arith, p.1)

rising_append : (a n : ℕ) (r s : List Move) → a ≤ n → Rising a r → Fits n r → Rising n s → Rising a (r ++ s)
rising_append a n [] s h p f q = rising_weaker a n s h q
rising_append a n (k ∷ ks) s h p f q = (p.0, rising_append (suc k.worker) n ks s f.0 p.1 f.1 q)

member_left : (r s : List Move) (k : Move) → Member k r → Member k (r ++ s)
member_left [] s k h = elim h [ ]
member_left (j ∷ js) s k (inl e) = inl e
member_left (j ∷ js) s k (inr h) = inr (member_left js s k h)

member_right : (r s : List Move) (k : Move) → Member k s → Member k (r ++ s)
member_right [] s k h = h
member_right (j ∷ js) s k h = inr (member_right js s k h)

member_cases : (r s : List Move) (k : Move) → Member k (r ++ s) → Member k r ⊎ Member k s
member_cases [] s k h = inr h
member_cases (j ∷ js) s k (inl e) = inl (inl e)
member_cases (j ∷ js) s k (inr h) = elim (member_cases js s k h) [ inl p ↦ inl (inr p) | inr p ↦ inr p ]

-- the moves from x to y of the members of S
module _ (x y : Placement) (S : Set) where
  pub carried_rise : (n : ℕ) → Rising 0 (carried x y S n)
  unfolding carried
  carried_rise zero = tt
  carried_rise (suc n) =
      rising_append 0 n (carried x y S n) (only_if (S n) (move_from x y n)) (omega arith) (carried_rise n) (fits_carried x y S n n (omega arith))
      (elim (S n) as (λ b. Rising n (only_if b (move_from x y n))) [ true ↦ (omega arith, tt) | false ↦ tt ])

  carried_has : (n w : ℕ) → w < n → S w ≡ true → Member (move_from x y w) (carried x y S n)
  unfolding carried
  carried_has zero w h s = absurd (omega arith)
  carried_has (suc n) w h s = elim (cases_eq w n) [
    | inl e ↦ member_right (carried x y S n) (only_if (S n) (move_from x y n)) (move_from x y w)
        (subst (λ v. Member (move_from x y w) (only_if (S v) (move_from x y v))) e (rw s (inl refl)))
    | inr ne ↦ member_left (carried x y S n) (only_if (S n) (move_from x y n)) (move_from x y w) (carried_has n w (omega arith) s)
  ]

  carried_only : (n : ℕ) (k : Move) → Member k (carried x y S n) → (S k.worker ≡ true) × (k ≡ move_from x y k.worker)
  unfolding carried
  carried_only zero k h = elim h [ ]
  carried_only (suc n) k h = elim (member_cases (carried x y S n) (only_if (S n) (move_from x y n)) k h) [ inl p ↦ carried_only n k p | inr p ↦ at (S n) refl p ]
    where
      at : (b : Bool) → S n ≡ b → Member k (only_if b (move_from x y n)) → (S k.worker ≡ true) × (k ≡ move_from x y k.worker)
      at false e p = elim p [ ]
      at true e (inl q) =
          let w : k.worker ≡ n = ap (λ j. j.worker) q in
          (subst (λ v. S v ≡ true) (sym w) e, q ∙ ap (move_from x y) (sym w))
      at true e (inr p) = elim p [ ]

-- the moves of a rotation are those of all that follow its leader
pub moves_on : (m : Market) (C : Policy) (x : Placement) (S : Set) (c : Cycle m C x S) (k : Move) → Member k (moves m C x S) ↔ MovesOn m C x c.leader k
moves_on m C x S c k = (
  λ h.
      let (s, q) = carried_only x (target m C x) S 64 k h in
      record {
        follows = (c.members k.worker).0 s;
        leaves = sym (ap (λ j. j.from) q);
        steps = has_step c k.worker s ∙ ap Some (sym (ap (λ j. j.to) q));
      },
  λ o.
      let v = k.worker in
      let s = (c.members v).1 o.follows in
      let t = target_is m C x v k.to o.steps in
      let same : move_from x (target m C x) v ≡ k = λ i. record { worker = v; from = o.leaves i; to = t i } in
      subst (λ j. Member j (moves m C x S)) same (carried_has x (target m C x) S 64 v (cycle_workers c v s) s),
)

pub finds_rotation : (m : Market) (C : Policy) (x : Placement) (w : ℕ) → FindsRotation m C x w (rotation_at m C x w)
finds_rotation m C x w = record {
  moves = λ r e.
      let (rot, l) = rotation_found m C x w r e in
      let S = rot.group in (
        rot,
        record {
          on = found_on m C x w r e;
          rising = rw rot.listed (carried_rise x (target m C x) S 64);
          moves = λ k. rw rot.listed (subst (λ v. Member k (moves m C x S) ↔ MovesOn m C x v k) l (moves_on m C x S rot.cycle k));
        },
      );
  missing = (missing_off m C x w, off_missing m C x w);
}
