-- A turn more of a board that moves on, and what a course comes to, told alike of equal lists, policies, settled placements, counts and states.
use Rattle.std.proofs.Common.{◌≡◌, ℕ, ◌+◌, ◌<◌, ◌≤◌, List, [], length, Some, sym, ap, ◌∙◌, subst, ap₂, arith}
use Rattle.fleet.specs.Market.{Market}
use Rattle.fleet.specs.Lists.{market}
use Rattle.fleet.specs.Sets.{lowest}
use Rattle.fleet.specs.declared.Event.{Event}
use Rattle.policy.specs.Choice.{Policy}
use Rattle.runs.specs.States.{State}
use Rattle.matching.specs.Entries.{place}
use Rattle.matching.specs.Stable.{Given}
use Rattle.matching.specs.declared.placement.Placement.{Placement}
use Rattle.rotation.specs.Moves.{on_rotation}
use Rattle.runs.specs.Onward.{Course, turn, Moving, MovedOn}
use Rattle.runs.proofs.Onward.{moving_turn, moving_stops}
use Rattle.board.specs.declared.refusal.Refusal.{Refusal}
use Rattle.board.specs.declared.refusal.Refusal.TheVariants.{NoRotation, DrainSet, NoDrain, OtherTicket, NumbersShort, NoneStanding}
use Rattle.board.specs.declared.table.Table.{Table}
use Rattle.board.specs.Answers.{refusal_number}
use Rattle.board.specs.Shown.{state, Keeps}
use Rattle.board.specs.Moving.{lowest_at, turn_at, Written}

module _ (m n : Market) (C D : Policy) (l k : List ℕ) (mn : m ≡ n) (cd : C ≡ D) (lk : l ≡ k) (o : State) (before log : List Event) where
  pub moved_same : (i j p q : ℕ) (s u : State) → i ≡ j → p ≡ q → s ≡ u → MovedOn m C l o before i p s log → MovedOn n D k o before j q u log
  moved_same i j p q s u ij pq su h =
      subst (λ (z : Market). MovedOn z D k o before j q u log) mn
      (subst (λ (Z : Policy). MovedOn m Z k o before j q u log) cd
      (subst (λ (z : List ℕ). MovedOn m C z o before j q u log) lk
      (subst (λ (z : ℕ). MovedOn m C l o before z q u log) ij
      (subst (λ (z : ℕ). MovedOn m C l o before i z u log) pq
      (subst (λ (z : State). MovedOn m C l o before i p z log) su h)))))

-- a later table of a board asks the same of its worker as its first table would
module _ (t u : Table) (C D : Policy) (k : Keeps t u) (dc : D ≡ C) where
  abbrev m : Market
  m = market t.lists

  lists_same : market u.lists ≡ m
  lists_same = ap market k.lists

  pub lowest_same : lowest_at D u ≡ lowest m.workers (on_rotation m C (place u.current.places))
  lowest_same = ap₂ (λ (n : Market) (F : Policy). lowest n.workers (on_rotation n F (place u.current.places))) lists_same dc

  pub turn_same : (w : ℕ) → turn_at D u w ≡ turn m C t.settled.places (state u) w
  turn_same w =
      ap₂ (λ (n : Market) (F : Policy). turn n F u.settled.places (state u) w) lists_same dc ∙
      ap (λ (l : List ℕ). turn m C l (state u) w) (ap (λ (p : Placement). p.places) k.settled)

-- no refusal has the number 0
refusal_some : (e : Refusal) → refusal_number e ≡ 0 → ⊥
refusal_some NoRotation h = omega arith
refusal_some DrainSet h = omega arith
refusal_some NoDrain h = omega arith
refusal_some OtherTicket h = omega arith
refusal_some NumbersShort h = omega arith
refusal_some NoneStanding h = omega arith

-- a turn d of worker w that leads to the state u
module _ (m : Market) (C : Policy) (l : List ℕ) (o : State) (before : List Event) (turns n : ℕ) (s : State) (log : List Event)
    (moving : Moving m C l o before turns n s log) (few : turns < 481) (long : n ≤ length log) (w : ℕ)
    (found : lowest m.workers (on_rotation m C (place s.placement)) ≡ Some w) (given : Given m C) (size : length s.placement ≡ 64)
    (d : Course) (e : d ≡ turn m C l s w) (u : State) (to : u ≡ d.reached) (new : List Event) (written : Written d n log new) where
  written_so : Written (turn m C l s w) n log new
  written_so = subst (λ (c : Course). Written c n log new) e written

  to_there : u ≡ (turn m C l s w).reached
  to_there = to ∙ ap (λ (c : Course). c.reached) e

  long_so : n + length d.events ≡ n + length (turn m C l s w).events
  long_so = ap (λ (c : Course). n + length c.events) e

  pub turn_made : (k : ℕ) → k ≡ n + length d.events → d.stopped ≡ 0 → Moving m C l o before (turns + 1) k u new
  turn_made k end free =
      subst (λ (j : ℕ). Moving m C l o before (turns + 1) j u new) (sym (end ∙ long_so))
      (subst (λ (v : State). Moving m C l o before (turns + 1) (n + length (turn m C l s w).events) v new) (sym to_there)
      (moving_turn m C l o before turns n s log moving few w found new long written_so given size (sym (ap (λ (c : Course). c.stopped) e) ∙ free)))

  pub turn_stopped : (r : Refusal) → d.events ≡ [] → refusal_number r ≡ d.stopped → MovedOn m C l o before n (refusal_number r) u new
  turn_stopped r none number =
      let end : n + length (turn m C l s w).events ≡ n = sym long_so ∙ (let z = ap length none in omega arith) in
      let stop : (turn m C l s w).stopped ≡ refusal_number r = sym (number ∙ ap (λ (c : Course). c.stopped) e) in
      subst (λ (j : ℕ). MovedOn m C l o before j (refusal_number r) u new) end
      (subst (λ (j : ℕ). MovedOn m C l o before (n + length (turn m C l s w).events) j u new) stop
      (subst (λ (v : State). MovedOn m C l o before (n + length (turn m C l s w).events) (turn m C l s w).stopped v new) (sym to_there)
      (moving_stops m C l o before turns n s log moving few w found new long written_so given size (λ z. refusal_some r (sym stop ∙ z)))))
