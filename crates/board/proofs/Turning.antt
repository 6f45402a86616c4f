-- A turn at a table: an open that is refused ends it, and one that is accepted leads to a commit that is, with room for its events.
use Rattle.std.proofs.Common.{◌≡◌, ℕ, suc, ◌+◌, ◌≤◌, true, List, [], ◌∷◌, ◌++◌, length, take, drop, Ok, Err, Result, sym, refl, ap, ◌∙◌, subst, ap₂, inl, inr, append_assoc, arith, length-append, length-take}
use Rattle.std.proofs.lemmas.List.{take_at, drop_at, drop-drop, take-append-drop}
use Rattle.fleet.specs.Market.{Market}
use Rattle.fleet.specs.Lists.{market}
use Rattle.fleet.specs.declared.Event.{Event}
use Rattle.fleet.proofs.Sound.{lists_sound}
use Rattle.policy.specs.Choice.{Policy}
use Rattle.matching.specs.declared.placement.Placement.{Placement}
use Rattle.matching.specs.Entries.{place}
use Rattle.rotation.proofs.Walks.{rotation_found}
use Rattle.runs.specs.States.{Rotation, State, Ticket, Answer}
use Rattle.runs.specs.States.Ticket.{blank, numbered}
use Rattle.runs.specs.States.Call.{open_for, commit}
use Rattle.runs.specs.States.Answer.{accepted}
use Rattle.runs.specs.Calls.{event, events, own_move, drained, committing, answer}
use Rattle.runs.specs.Onward.{Course, turn, weight}
use Rattle.runs.proofs.Bounds.{length_events}
use Rattle.runs.proofs.Descent.{descends_few}
use Rattle.runs.proofs.Falls.{rotation_descends, rotation_two}
use Rattle.runs.proofs.Onward.{Moves, turn_is, stops_turn, moves_turn}
use Rattle.board.specs.declared.table.Table.{Table}
use Rattle.board.specs.declared.refusal.Refusal.{Refusal}
use Rattle.board.specs.Answers.{refusal_number, count_in, slip_after, ticket_of}
use Rattle.board.specs.Moving.{Ends as Ends_of}
use Rattle.board.specs.Shown.{state, called, Keeps}
use Rattle.board.proofs.Held.{one_more, move_room, count_room, standing_long, standing_moves}

err≢ok : (a b : ℕ) → ◌≡◌ {A = Result ℕ ℕ} (Err a) (Ok b) → ⊥
err≢ok a b e = cc

err_inj : (a b : ℕ) → ◌≡◌ {A = Result ℕ ℕ} (Err a) (Err b) → a ≡ b
err_inj a b e = cc

ok_inj : (a b : ℕ) → ◌≡◌ {A = Result ℕ ℕ} (Ok a) (Ok b) → a ≡ b
ok_inj a b e = cc

-- events written behind others, and others behind them
written_twice : (log : List Event) (at : ℕ) (es fs : List Event) (mid new : List Event) → at ≤ length log → mid ≡ take at log ++ (es ++ drop (at + length es) log) →
    new ≡ take (at + length es) mid ++ (fs ++ drop (at + length es + length fs) mid) →
    new ≡ take at log ++ ((es ++ fs) ++ drop (at + length (es ++ fs)) log)
written_twice log at es fs mid new h a b =
    let first : List Event = take at log ++ es in
    let size : length first ≡ at + length es = length-append (take at log) es ∙ (let n = length-take at log in omega arith) in
    let split : mid ≡ first ++ drop (at + length es) log = a ∙ sym (append_assoc (take at log) es (drop (at + length es) log)) in
    let front : take (at + length es) mid ≡ first = ap (take (at + length es)) split ∙ take_at first (drop (at + length es) log) (at + length es) size in
    let past : drop (at + length es) mid ≡ drop (at + length es) log = ap (drop (at + length es)) split ∙ drop_at first (drop (at + length es) log) (at + length es) size in
    let further : drop (at + length es + length fs) mid ≡ drop (at + length (es ++ fs)) log =
    sym (drop-drop (length fs) (at + length es) mid) ∙ ap (drop (length fs)) past ∙ drop-drop (length fs) (at + length es) log ∙
    ap (λ (n : ℕ). drop n log) (let n = length-append es fs in omega arith) in
    b ∙ ap₂ (λ (x y : List Event). x ++ (fs ++ y)) front further ∙ append_assoc (take at log) es (fs ++ drop (at + length (es ++ fs)) log) ∙
    ap (λ (x : List Event). take at log ++ x) (sym (append_assoc es fs (drop (at + length (es ++ fs)) log)))

-- nothing written
pub written_none : (log : List Event) (at : ℕ) → log ≡ take at log ++ ([] ++ drop (at + 0) log)
written_none log at = sym (take-append-drop at log) ∙ ap (λ (n : ℕ). take at log ++ drop n log) (let e : at ≡ at + 0 = omega arith in e)

-- the first events of a slip that holds them
slip_front : (es slip : List Event) → take (length es) (es ++ slip) ≡ es
slip_front es slip = take_at es slip (length es) refl

module _ (t : Table) (C : Policy) (w : ℕ) where
  abbrev m : Market
  m = market t.lists

  abbrev home : List ℕ
  home = t.settled.places

  abbrev c : Course
  c = turn m C home (state t) w

  -- an open that is refused
  pub record Ends (k : ℕ) : Type 0 where
    pub reached : (called C t (open_for w)).0 ≡ c.reached
    pub none : c.events ≡ []
    pub stopped : k ≡ c.stopped

  pub refused_ends : (k : ℕ) → Err k ≡ count_in (called C t (open_for w)).1 → Ends k
  refused_ends k e = elim (turn_is m C home (state t) w) [
    | inl st ↦
        (let q = stops_turn m C home (state t) w st in
        let a = st.refuses in
        record {
          reached = ap (λ (p : State × Answer). p.0) a ∙ sym (ap (λ (d : Course). d.reached) q);
          none = ap (λ (d : Course). d.events) q;
          stopped = err_inj k st.number (e ∙ ap (λ (p : State × Answer). count_in p.1) a) ∙ sym (ap (λ (d : Course). d.stopped) q);
        })
    | inr mv ↦
        absurd (err≢ok k 1 (e ∙ ap (λ (p : State × Answer). count_in p.1) mv.opens))
  ]

  pub turn_refused : (at : ℕ) (e : Refusal) → Err (refusal_number e) ≡ count_in (called C t (open_for w)).1 → (r : Result ℕ Refusal) → r ≡ Err e → Ends_of c at r
  turn_refused at e q r is =
      let ends = refused_ends (refusal_number e) q in
      subst (λ (z : Result ℕ Refusal). Ends_of c at z) (sym is) (ends.none, ends.stopped)

  -- an open that is accepted
  pub accepted_moves : (k : ℕ) → Ok k ≡ count_in (called C t (open_for w)).1 → Moves m C home (state t) w
  accepted_moves k e = elim (turn_is m C home (state t) w) [
    | inl st ↦
        absurd (err≢ok st.number k (sym (e ∙ ap (λ (p : State × Answer). count_in p.1) st.refuses)))
    | inr mv ↦ mv
  ]

  module _ (mv : Moves m C home (state t) w) where
    abbrev r : Rotation
    r = mv.rotation

    abbrev first : List Event
    first = event t.next 1 (own_move t.current.places r w) ∷ []

    abbrev rest : List Event
    rest = events (suc t.next) 2 r

    pub one_event : (k : ℕ) → Ok k ≡ count_in (called C t (open_for w)).1 → k ≡ 1
    one_event k e = ok_inj k 1 (e ∙ ap (λ (p : State × Answer). count_in p.1) mv.opens)

    -- there is room for the events
    pub turn_room : (weight (state t) + (1 + length r) ≤ 1440) × (length r ≤ 64)
    turn_room =
        let rot = (rotation_found m C (place t.current.places) w r mv.found).0 in
        let down = rotation_descends (lists_sound t.lists) rot in
        let led = one_more t r down (rotation_two (lists_sound t.lists) rot) in
        let a = move_room t r led in
        let b = count_room t r led in
        (omega (arith, standing_long t, standing_moves t), (let d = descends_few m (place t.current.places) 0 r down (omega arith) in omega arith))

    -- the commit with the ticket that was answered
    pub second : (u : Table) (D : Policy) → Keeps t u → D ≡ C → state u ≡ (called C t (open_for w)).0 → (k : Ticket) → k ≡ ticket_of (called C t (open_for w)).1 →
        called D u (commit k) ≡ ((committing (drained (state t) r) r true).0, accepted rest blank)
    second u D keeps same st k e =
        let lists : market u.lists ≡ m = ap market keeps.lists in
        let settled : u.settled.places ≡ home = ap (λ (p : Placement). p.places) keeps.settled in
        let now : state u ≡ drained (state t) r = st ∙ ap (λ (p : State × Answer). p.0) mv.opens in
        let ticket : k ≡ numbered t.next = e ∙ ap (λ (p : State × Answer). ticket_of p.1) mv.opens in
        ap (λ n. answer n D u.settled.places (state u) (commit k)) lists ∙
        ap (λ (F : Policy). answer m F u.settled.places (state u) (commit k)) same ∙
        ap₂ (λ (l : List ℕ) (s : State). answer m C l s (commit k)) settled now ∙
        ap (λ (j : Ticket). answer m C home (drained (state t) r) (commit j)) ticket ∙ mv.makes

    -- it answers as many events as the rotation has moves
    pub moved_count : (k : ℕ) (a : State × Answer) → Ok k ≡ count_in a.1 → a ≡ ((committing (drained (state t) r) r true).0, accepted rest blank) → k ≡ length r
    moved_count k a e q = ok_inj k (length rest) (e ∙ ap (λ (p : State × Answer). count_in p.1) q) ∙ length_events (suc t.next) 2 r

    pub never_refused : (k : ℕ) (a : State × Answer) → Err k ≡ count_in a.1 → a ≡ ((committing (drained (state t) r) r true).0, accepted rest blank) → ⊥
    never_refused k a e q = err≢ok k (length rest) (e ∙ ap (λ (p : State × Answer). count_in p.1) q)

    pub whole : c ≡ record { reached = (committing (drained (state t) r) r true).0; events = first ++ rest; stopped = 0 }
    whole = moves_turn m C home (state t) w mv

    -- the events of both calls stand in the log
    pub turn_written : (log : List Event) (at a b : ℕ) (p : State × Answer) → p ≡ ((committing (drained (state t) r) r true).0, accepted rest blank) →
        Ok a ≡ count_in (called C t (open_for w)).1 → Ok b ≡ count_in p.1 → (slip mid end : List Event) →
        mid ≡ slip_after (called C t (open_for w)).1 slip → end ≡ slip_after p.1 mid →
        (then new : List Event) (place : ℕ) → then ≡ take at log ++ (take a mid ++ drop (at + a) log) → new ≡ take place then ++ (take b end ++ drop (place + b) then) → place ≡ at + a →
        at ≤ length log → (place + b ≡ at + length c.events) × (new ≡ take at log ++ (c.events ++ drop (at + length c.events) log))
    turn_written log at a b p q e f slip mid end sa sb then new place la lb le h =
        let one : a ≡ 1 = one_event a e in
        let more : b ≡ length rest = ok_inj b (length rest) (f ∙ ap (λ (x : State × Answer). count_in x.1) q) in
        let first_slip : take a mid ≡ first =
        ap₂ take one (sa ∙ ap (λ (x : State × Answer). slip_after x.1 slip) mv.opens) ∙ slip_front first (drop 1 slip) in
        let rest_slip : take b end ≡ rest =
        ap₂ take more (sb ∙ ap (λ (x : State × Answer). slip_after x.1 mid) q) ∙ slip_front rest (drop (length rest) mid) in
        let all : c.events ≡ first ++ rest = ap (λ (d : Course). d.events) whole in
        let long : length (first ++ rest) ≡ 1 + length rest = length-append first rest in
        let stands : new ≡ take at log ++ ((first ++ rest) ++ drop (at + length (first ++ rest)) log) =
        written_twice log at first rest then new h
        (la ∙ ap₂ (λ (x : List Event) (n : ℕ). take at log ++ (x ++ drop (at + n) log)) first_slip one)
        (lb ∙ ap₂ (λ (n : ℕ) (x : List Event). take n then ++ (x ++ drop (n + b) then)) (le ∙ ap (λ (n : ℕ). at + n) one) rest_slip ∙
        ap (λ (n : ℕ). take (at + 1) then ++ (rest ++ drop (at + 1 + n) then)) more) in
        (omega (arith, ap length all), stands ∙ sym (ap (λ (es : List Event). take at log ++ (es ++ drop (at + length es) log)) all))
