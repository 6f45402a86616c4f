-- A new board whose first number leaves 1,440 more moves on until no rotation is left: nothing stops it.
use Rattle.std.proofs.Common.{◌≡◌, ℕ, zero, suc, ◌+◌, ◌-◌, ◌^◌, ◌≤◌, Bool, true, false, List, [], ◌∷◌, ◌++◌, length, is_some, Some, None, Option, sym, refl, ap, ◌∙◌, subst, ap₂, inl, inr, arith}
use Rattle.std.proofs.lemmas.List.{length_push}
use Rattle.std.proofs.lemmas.List.Sums.{sum_by_push}
use Rattle.std.proofs.lemmas.Bool.{le-ltb, true≢false}
use Rattle.fleet.specs.Sets.{lowest}
use Rattle.fleet.specs.Market.{Market, Sound, Placement}
use Rattle.fleet.proofs.First.{lowest_some}
use Rattle.policy.specs.Choice.{Policy}
use Rattle.matching.specs.Entries.{place}
use Rattle.matching.specs.Settling.{settled_placement}
use Rattle.rotation.specs.Moves.{Rotates, on_rotation, rotation_at}
use Rattle.rotation.proofs.Walks.{rotation_found}
use Rattle.runs.specs.States.{Rotation, Drain, State, Answer}
use Rattle.runs.specs.States.Ticket.{numbered}
use Rattle.runs.specs.States.Call.{open_for, commit}
use Rattle.runs.specs.States.Request.{to_open}
use Rattle.runs.specs.Calls.{short, opening, drained, committing, respond, answer, settled_list, made}
use Rattle.runs.specs.Onward.{Course, weight, followed, onward, moving_on}
use Rattle.runs.proofs.Agree.{refused≢accepted}
use Rattle.runs.proofs.Bounds.{route_few, route_moves}
use Rattle.runs.proofs.Kept.{Kept, kept_call, kept_made}
use Rattle.runs.proofs.Onward.{Moves, turn_is, moves_turn, onward_some, onward_none}
use Rattle.runs.proofs.Routes.{Route, ends, route_snoc}

some_since : (o : Option Rotation) → is_some o ≡ true → (r : Rotation) × (o ≡ Some r)
some_since (Some r) e = (r, refl)
some_since None e = absurd (true≢false (sym e))

module _ (m : Market) (C : Policy) (sound : Sound m) (first : ℕ) (room : first + 1440 ≤ 2 ^ 64 - 1) where
  abbrev home : List ℕ
  home = settled_list m C

  -- nothing is drained, and no more numbers are gone than the standing rotations weigh
  record Free (s : State) : Type 0 where
    kept : Kept m C s
    shut : s.drain ≡ None
    low : s.next ≤ first + weight s

  module _ (s : State) (free : Free s) (w : ℕ) (r : Rotation) (found : rotation_at m C (place s.placement) w ≡ Some r) where
    light : weight s + (1 + length r) ≤ 1440
    light =
        let rot : Rotates m C (ends (settled_placement m C) s.standing) r =
        subst (λ (x : Placement). Rotates m C x r) free.kept.here (rotation_found m C (place s.placement) w r found).0 in
        let rs : List Rotation = s.standing ++ (r ∷ []) in
        let ro : Route m C (settled_placement m C) rs = route_snoc m C s.standing r (settled_placement m C) free.kept.route rot in
        omega (arith, route_few m C sound rs ro, route_moves m C sound rs ro, length_push s.standing r, sum_by_push length s.standing r)

    enough : short s.next (1 + length r) ≡ false
    enough = le-ltb (2 ^ 64 - 1 - s.next) (1 + length r) (omega (arith, light, free.low))

    opens : answer m C home s (open_for w) ≡ opening s w r false
    opens =
        ap₂ (λ (d : Option Drain) (o : Option Rotation). respond home s d (to_open w o)) free.shut found ∙ ap (λ (b : Bool). opening s w r b) enough

  -- a turn for a worker on a rotation is not refused
  moves : (s : State) (w : ℕ) → Free s → lowest m.workers (on_rotation m C (place s.placement)) ≡ Some w → Moves m C home s w
  moves s w free e =
      let (r, found) = some_since (rotation_at m C (place s.placement) w) (lowest_some m.workers (on_rotation m C (place s.placement)) w e).0 in
      elim (turn_is m C home s w) [
        | inl st ↦ absurd (refused≢accepted (ap (λ (p : State × Answer). p.1) (sym st.refuses ∙ opens s free w r found)))
        | inr mv ↦ mv
      ]

  -- and what holds before it holds after it
  free_on : (s : State) (w : ℕ) → Free s → (mv : Moves m C home s w) → Free (committing (drained s mv.rotation) mv.rotation true).0
  free_on s w free mv =
      let r = mv.rotation in
      let one : Kept m C (drained s r) = subst (λ (p : State × Answer). Kept m C p.0) mv.opens (kept_call m C sound s free.kept (open_for w)) in
      record {
        kept = subst (λ (p : State × Answer). Kept m C p.0) mv.makes (kept_call m C sound (drained s r) one (commit (numbered s.next)));
        shut = refl;
        low = omega (arith, free.low, length_push s.standing r, sum_by_push length s.standing r);
      }

  onward_free : (n : ℕ) (s : State) → Free s → (onward m C home n s).stopped ≡ 0
  unfolding onward
  onward_free zero s free = refl
  onward_free (suc n) s free = go (lowest m.workers (on_rotation m C (place s.placement))) refl (λ u f. onward_free n u f)
    where
      go : (o : Option ℕ) → lowest m.workers (on_rotation m C (place s.placement)) ≡ o → ((u : State) → Free u → (onward m C home n u).stopped ≡ 0) → (onward m C home (suc n) s).stopped ≡ 0
      go None e rest = ap (λ (c : Course). c.stopped) (onward_none m C home (suc n) s e)
      go (Some w) e rest =
          let mv = moves s w free e in
          ap (λ (c : Course). c.stopped) (onward_some m C home n w s e ∙ ap (λ (c : Course). followed c (λ u. onward m C home n u)) (moves_turn m C home s w mv)) ∙
          rest (committing (drained s mv.rotation) mv.rotation true).0 (free_on s w free mv)

  pub unstopped : (moving_on m C home (made m C first)).stopped ≡ 0
  unstopped = onward_free 481 (made m C first) (record { kept = kept_made m C sound first; shut = refl; low = omega arith })
