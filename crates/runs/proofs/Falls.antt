-- A rotation goes strictly down the workers' lists and has two moves at least, and so a route of rotations leads down.
use Rattle.std.proofs.Common.{◌≡◌, ℕ, suc, ◌<◌, ◌≤◌, Bool, true, false, cond, eqb, List, [], ◌∷◌, length, Some, None, sym, refl, ap, ◌∙◌, subst, inl, inr, arith}
use Rattle.std.proofs.lemmas.Bool.{eqb-true}
use Rattle.fleet.specs.Market.{Market, Sound, Placement, rank}
use Rattle.fleet.specs.declared.Move.{Move}
use Rattle.fleet.proofs.First.{Some≢None}
use Rattle.policy.specs.Choice.{Policy}
use Rattle.matching.specs.Entries.{place}
use Rattle.rotation.specs.Rotation.{target}
use Rattle.rotation.specs.Moves.{Rotates, dest, applied, moved}
use Rattle.rotation.specs.Laws.{Member, Rising, MovesOn}
use Rattle.rotation.proofs.Steps.{step_some, next}
use Rattle.rotation.proofs.Cycles.{leads as leader_in, stays, displaces, cycle_workers}
use Rattle.rotation.proofs.Listed.{carried_rise, moves_on}
use Rattle.rotation.proofs.Moved.{length_moved}
use Rattle.rotation.proofs.Rotates.{rotates_fits, group_dest}
use Rattle.runs.specs.States.{Rotation}
use Rattle.runs.specs.Descent.{descends, leads}
use Rattle.runs.proofs.Descent.{GoesDown, none_down, more_down, none_leads, more_leads}
use Rattle.runs.proofs.Routes.{Route}
use Rattle.runs.proofs.Kept.{placed_after}

-- moves that take two workers somewhere are two at least
two : (r : List Move) (a b u v : ℕ) → (a ≡ b → ⊥) → dest r a ≡ Some u → dest r b ≡ Some v → 1 < length r
two [] a b u v ne p q = absurd (Some≢None (sym p))
two (k ∷ []) a b u v ne p q = absurd (ne (here a u (eqb a k.worker) refl p ∙ sym (here b v (eqb b k.worker) refl q)))
  where
    here : (c z : ℕ) (t : Bool) → eqb c k.worker ≡ t → cond t (Some k.to) None ≡ Some z → c ≡ k.worker
    here c z true e h = eqb-true c k.worker e
    here c z false e h = absurd (Some≢None (sym h))
two (k ∷ j ∷ ks) a b u v ne p q = omega arith

module _ {m : Market} {C : Policy} (sound : Sound m) {x : Placement} {r : Rotation} (rot : Rotates m C x r) where
  falls : (k : Move) (n : ℕ) → MovesOn m C x rot.cycle.leader k → n ≤ k.worker → GoesDown m x n k
  falls k n o h =
      let w = k.worker in
      let s = step_some m C x w k.to o.steps in
      record {
        from_on = h;
        worker = cycle_workers rot.cycle w ((rot.cycle.members w).1 o.follows);
        leaves = o.leaves;
        down = omega (arith, s.down, ap (rank (m.list w)) o.leaves);
        few = omega (arith, s.on, sound.short_lists w);
      }

  all_fall : (q : List Move) (n : ℕ) → Rising n q → ((k : Move) → Member k q → MovesOn m C x rot.cycle.leader k) → descends m x n q ≡ true
  all_fall [] n up each = none_down m x n
  all_fall (k ∷ ks) n up each = more_down m x n k ks (falls k n (each k (inl refl)) up.0) (all_fall ks (suc k.worker) up.1 (λ j h. each j (inr h)))

  pub rotation_descends : descends m x 0 r ≡ true
  rotation_descends =
      let S = rot.group in
      all_fall r 0 (rw rot.listed (carried_rise x (target m C x) S 64))
      (λ k h. (moves_on m C x S rot.cycle k).0 (subst (λ (q : List Move). Member k q) rot.listed h))

  -- the leader works elsewhere than its successor, which works where the leader steps to
  pub rotation_two : 1 < length r
  rotation_two =
      let c = rot.cycle in
      let a = c.leader in
      let d = displaces c a (leader_in c) in
      let apart : a ≡ next m C x a → ⊥ = λ e. omega (arith, d.steps.down, ap (rank (m.list a)) (ap x e ∙ d.works)) in
      two r a (next m C x a) (target m C x a) (target m C x (next m C x a)) apart (group_dest rot a (leader_in c)) (group_dest rot (next m C x a) (stays c a (leader_in c)))

-- on lists of tenants by worker
pub route_leads : (m : Market) (C : Policy) → Sound m → (rs : List Rotation) (x : Placement) (l : List ℕ) → length l ≡ 64 → place l ≡ x → Route m C x rs → leads m l rs ≡ true
route_leads m C sound [] x l h e ro = none_leads m l
route_leads m C sound (r ∷ rs) x l h e ro =
    more_leads m l r rs (subst (λ (y : Placement). descends m y 0 r ≡ true) (sym e) (rotation_descends sound ro.0)) (rotation_two sound ro.0)
    (route_leads m C sound rs (applied r x) (moved r l) (length_moved r l ∙ h) (placed_after l x r h e (rotates_fits ro.0)) ro.1)
