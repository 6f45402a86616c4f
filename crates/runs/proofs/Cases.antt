-- What a call can come to: nothing changes, or a drain is opened, committed or withdrawn, or the last rotation is taken back, or all are.
use Rattle.std.proofs.Common.{◌≡◌, ℕ, ◌+◌, Bool, true, false, List, [], ◌∷◌, length, Some, None, Option, refl}
use Rattle.fleet.specs.Market.{Market}
use Rattle.fleet.specs.declared.Event.{Event}
use Rattle.policy.specs.Choice.{Policy}
use Rattle.matching.specs.Entries.{place}
use Rattle.rotation.specs.Moves.{reversed, rotation_at}
use Rattle.runs.specs.States.{Rotation, Drain, State, Call}
use Rattle.runs.specs.States.Call.{open_for, commit, withdraw, back, rewind}
use Rattle.runs.specs.Calls.{event, events, short, matches, last_of, returns, own_move, drained, opening, open_on, committing, withdrawing, backing, back_over, rewinding, rewind_to, respond, request, settled_list, call, told}

-- what holds of the state and the events after each change holds after every call
module _ (m : Market) (C : Policy) (s : State) (P : State → List Event → Type 0) (stays : P s [])
    (opens : (w : ℕ) (r : Rotation) → rotation_at m C (place s.placement) w ≡ Some r → short s.next (1 + length r) ≡ false →
    P (drained s r) (event s.next 1 (own_move s.placement r w) ∷ []))
    (commits : (d : Drain) → s.drain ≡ Some d → P (committing s d.rotation true).0 (events s.next 2 d.rotation))
    (withdraws : P (withdrawing s true).0 [])
    (backs : (r : Rotation) → last_of s.standing ≡ Some r → short s.next (length r) ≡ false → P (backing s r false).0 (events s.next 3 (reversed r)))
    (rewinds : (let r = returns (settled_list m C) s.placement in short s.next (length r) ≡ false → P (rewinding s (settled_list m C) r false).0 (events s.next 4 r)))
  where
    open_case : (w : ℕ) (o : Option Rotation) → rotation_at m C (place s.placement) w ≡ o → P (open_on s w o).0 (told (open_on s w o).1)
    open_case w None e = stays
    open_case w (Some r) e = at (short s.next (1 + length r)) refl
      where
        at : (b : Bool) → short s.next (1 + length r) ≡ b → P (opening s w r b).0 (told (opening s w r b).1)
        at true q = stays
        at false q = opens w r e q

    commit_case : (d : Drain) → s.drain ≡ Some d → (b : Bool) → P (committing s d.rotation b).0 (told (committing s d.rotation b).1)
    commit_case d e true = commits d e
    commit_case d e false = stays

    withdraw_case : (b : Bool) → P (withdrawing s b).0 (told (withdrawing s b).1)
    withdraw_case true = withdraws
    withdraw_case false = stays

    back_case : (o : Option Rotation) → last_of s.standing ≡ o → P (back_over s o).0 (told (back_over s o).1)
    back_case None e = stays
    back_case (Some r) e = at (short s.next (length r)) refl
      where
        at : (b : Bool) → short s.next (length r) ≡ b → P (backing s r b).0 (told (backing s r b).1)
        at true q = stays
        at false q = backs r e q

    rewind_case : P (rewind_to s (settled_list m C)).0 (told (rewind_to s (settled_list m C)).1)
    rewind_case = at (short s.next (length (returns (settled_list m C) s.placement))) refl
      where
        at : (let r = returns (settled_list m C) s.placement in
            (b : Bool) → short s.next (length r) ≡ b → P (rewinding s (settled_list m C) r b).0 (told (rewinding s (settled_list m C) r b).1))
        at true q = stays
        at false q = rewinds q

    cases : (o : Option Drain) → s.drain ≡ o → (c : Call) →
        (let r = respond (settled_list m C) s o (request m C s.placement c) in P r.0 (told r.1))
    cases None e (open_for w) = open_case w (rotation_at m C (place s.placement) w) refl
    cases None e (commit t) = stays
    cases None e (withdraw t) = stays
    cases None e back = back_case (last_of s.standing) refl
    cases None e rewind = rewind_case
    cases (Some d) e (open_for w) = stays
    cases (Some d) e (commit t) = commit_case d e (matches t d.number)
    cases (Some d) e (withdraw t) = withdraw_case (matches t d.number)
    cases (Some d) e back = stays
    cases (Some d) e rewind = rewind_case

    pub call_cases : (c : Call) → P (call m C s c).0 (told (call m C s c).1)
    call_cases c = cases s.drain refl c
