-- What the board never passes: standing rotations and their moves, events of a call, and event numbers, which rise by one.
use Rattle.std.proofs.Common.{◌≡◌, ℕ, suc, ◌+◌, ◌-◌, ◌^◌, ◌≤◌, true, false, List, [], ◌∷◌, ◌++◌, length, Some, None, sum_by, sym, refl, ap, ◌∙◌, subst, arith, length-append}
use Rattle.std.proofs.lemmas.List.{length_push}
use Rattle.std.proofs.lemmas.List.Sums.{sum_by_push}
use Rattle.std.proofs.lemmas.Bool.{ltb-false}
use Rattle.fleet.specs.Market.{Market, Sound}
use Rattle.fleet.specs.declared.Move.{Move}
use Rattle.fleet.specs.declared.Event.{Event}
use Rattle.fleet.proofs.First.{SomeInj, Some≢None}
use Rattle.policy.specs.Choice.{Policy}
use Rattle.matching.specs.Settling.{settled_placement}
use Rattle.matching.proofs.Settles.{settled_place}
use Rattle.matching.proofs.Tabulate.{length_tabulate}
use Rattle.rotation.specs.Moves.{reversed}
use Rattle.rotation.proofs.Moved.{length_reversed}
use Rattle.runs.specs.States.{Rotation, Drain, State, Call}
use Rattle.runs.specs.Calls.{events, short, settled_list, call, made, run, board, told, run_events}
use Rattle.runs.specs.Descent.{leads}
use Rattle.runs.specs.Laws.{BoardBounds, NumberedFrom}
use Rattle.runs.proofs.Descent.{descends_few, few_rotations, few_moves}
use Rattle.runs.proofs.Falls.{rotation_descends, route_leads}
use Rattle.runs.proofs.Routes.{Route, route_snoc}
use Rattle.runs.proofs.Cases.{call_cases}
use Rattle.runs.proofs.Kept.{board_kept}

-- rotations that follow one another from the settled placement are few
module _ (m : Market) (C : Policy) (sound : Sound m) (rs : List Rotation) (route : Route m C (settled_placement m C) rs) where
  sized : length (settled_list m C) ≡ 64
  sized = length_tabulate 64 (settled_placement m C)

  led : leads m (settled_list m C) rs ≡ true
  led = route_leads m C sound rs (settled_placement m C) (settled_list m C) sized (settled_place m C sound) route

  pub route_few : length rs ≤ 480
  route_few = few_rotations m (settled_list m C) sized rs led

  pub route_moves : sum_by length rs ≤ 960
  route_moves = few_moves m (settled_list m C) sized rs led

-- the next number has 64 bits, and so have those that a commit will take
record FitsNumbers (s : State) : Type 0 where
  low : s.next ≤ 2 ^ 64 - 1
  room : (d : Drain) → s.drain ≡ Some d → s.next + length d.rotation ≤ 2 ^ 64 - 1

not_short : (next n : ℕ) → short next n ≡ false → n ≤ 2 ^ 64 - 1 - next
not_short next n e = ltb-false (2 ^ 64 - 1 - next) n e

no_drain : (s : State) → s.drain ≡ None → s.next ≤ 2 ^ 64 - 1 → FitsNumbers s
no_drain s e h = record { low = h; room = λ d q. absurd (Some≢None (sym q ∙ e)) }

module _ (m : Market) (C : Policy) where
  fits_call : (s : State) → FitsNumbers s → (c : Call) → FitsNumbers (call m C s c).0
  fits_call s f = call_cases m C s (λ (u : State) (es : List Event). FitsNumbers u) f
      (λ w r e q.
      let h = not_short s.next (1 + length r) q in
      let fits : suc s.next + length r ≤ 2 ^ 64 - 1 = omega arith in
      record { low = omega arith; room = λ d p. subst (λ (g : Drain). suc s.next + length g.rotation ≤ 2 ^ 64 - 1) (SomeInj p) fits })
      (λ d e. no_drain _ refl (f.room d e))
      (no_drain _ refl f.low)
      (λ r e q. no_drain _ refl (let h = not_short s.next (length r) q in let k = f.low in omega arith))
      (λ q. no_drain _ refl (let h = not_short s.next _ q in let k = f.low in omega arith))

  fits_run : (cs : List Call) (s : State) → FitsNumbers s → FitsNumbers (run m C s cs)
  fits_run [] s f = f
  fits_run (c ∷ cs) s f = fits_run cs (call m C s c).0 (fits_call s f c)

  board_fits : (first : ℕ) (cs : List Call) → first ≤ 2 ^ 64 - 1 → FitsNumbers (board m C first cs)
  board_fits first cs h = fits_run cs (made m C first) (no_drain (made m C first) refl h)

-- the events that follow n are numbered one by one, up to the next number
record Counted (n next : ℕ) (es : List Event) : Type 0 where
  each : NumberedFrom n es
  end : next ≡ n + length es

pub length_events : (n kind : ℕ) (r : List Move) → length (events n kind r) ≡ length r
length_events n kind [] = refl
length_events n kind (k ∷ ks) = ap suc (length_events (suc n) kind ks)

events_counted : (n kind : ℕ) (r : List Move) → Counted n (n + length r) (events n kind r)
events_counted n kind r = record { each = each n r; end = ap (λ (i : ℕ). n + i) (sym (length_events n kind r)) }
  where
    each : (n : ℕ) (r : List Move) → NumberedFrom n (events n kind r)
    each n [] = tt
    each n (k ∷ ks) = (refl, each (suc n) ks)

numbered_append : (n : ℕ) (es fs : List Event) → NumberedFrom n es → NumberedFrom (n + length es) fs → NumberedFrom n (es ++ fs)
numbered_append n [] fs p q = subst (λ (i : ℕ). NumberedFrom i fs) (omega arith) q
numbered_append n (e ∷ es) fs p q =
    let z : n + suc (length es) ≡ suc n + length es = omega arith in
    (p.0, numbered_append (suc n) es fs p.1 (subst (λ (i : ℕ). NumberedFrom i fs) z q))

module _ (m : Market) (C : Policy) where
  call_counted : (s : State) (c : Call) → Counted s.next (call m C s c).0.next (told (call m C s c).1)
  call_counted s = call_cases m C s (λ (u : State) (es : List Event). Counted s.next u.next es) none
      (λ w r e q. record { each = (refl, tt); end = omega arith })
      (λ d e. events_counted s.next 2 d.rotation)
      none
      (λ r e q. subst (λ (i : ℕ). Counted s.next (s.next + i) (events s.next 3 (reversed r))) (length_reversed r) (events_counted s.next 3 (reversed r)))
      (λ q. events_counted s.next 4 _)
    where
      none : Counted s.next s.next []
      none = record { each = tt; end = omega arith }

  run_counted : (cs : List Call) (s : State) → Counted s.next (run m C s cs).next (run_events m C s cs)
  run_counted [] s = record { each = tt; end = omega arith }
  run_counted (c ∷ cs) s =
      let es = told (call m C s c).1 in
      let a = call_counted s c in
      let b = run_counted cs (call m C s c).0 in
      let fs = run_events m C (call m C s c).0 cs in
      record {
        each = numbered_append s.next es fs a.each (subst (λ (i : ℕ). NumberedFrom i fs) a.end b.each);
        end = let n = length-append es fs in omega (arith, a.end, b.end);
      }

pub board_bounds : BoardBounds
board_bounds = record {
  few_standing = λ m C sound first cs. route_few m C sound (board m C first cs).standing (board_kept m C sound first cs).route;
  few_moves = λ m C sound first cs. route_moves m C sound (board m C first cs).standing (board_kept m C sound first cs).route;
  commit_room = λ m C sound first cs d e.
      let b = board m C first cs in
      let kept = board_kept m C sound first cs in
      let rs : List Rotation = b.standing ++ (d.rotation ∷ []) in
      let ro : Route m C (settled_placement m C) rs = route_snoc m C b.standing d.rotation (settled_placement m C) kept.route (kept.draining d e) in
      (omega (arith, route_few m C sound rs ro, length_push b.standing d.rotation), omega (arith, route_moves m C sound rs ro, sum_by_push length b.standing d.rotation));
  slip_room = λ m C sound first cs d e.
      let h = descends_few m _ 0 d.rotation (rotation_descends sound ((board_kept m C sound first cs).draining d e)) (omega arith) in omega arith;
  commit_numbers = λ m C first cs h d e. (board_fits m C first cs h).room d e;
  next_fits = λ m C first cs h. (board_fits m C first cs h).low;
  numbered = λ m C first cs. (run_counted m C cs (made m C first)).each;
  next_number = λ m C first cs. (run_counted m C cs (made m C first)).end;
}
