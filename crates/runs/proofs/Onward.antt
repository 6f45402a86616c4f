-- What a turn of a board that moves on comes to, and that no rotation is left where the turns end.
use Rattle.std.proofs.Common.{◌≡◌, ℕ, zero, suc, ◌+◌, ◌-◌, ◌<◌, ◌≤◌, Bool, true, false, cond, ◌⊎◌, List, [], ◌∷◌, ◌++◌, length, take, drop, Some, None, Option, sym, refl, ap, ◌∙◌, subst, ap₂, inl, inr, append_assoc, append-nil, arith, length-append, length-take}
use Rattle.std.proofs.lemmas.List.{length_push, take_at, drop_at, drop-drop}
use Rattle.std.proofs.lemmas.List.Sums.{sum_by_push}
use Rattle.std.proofs.lemmas.Bool.{eq-eqb, ne_eqb}
use Rattle.fleet.specs.Sets.{lowest}
use Rattle.fleet.specs.Market.{Market, Placement}
use Rattle.fleet.specs.declared.Event.{Event}
use Rattle.policy.specs.Choice.{Policy}
use Rattle.matching.specs.Entries.{place}
use Rattle.matching.specs.Stable.{Given, Stable, TenantBest}
use Rattle.rotation.specs.Moves.{Rotates, on_rotation, rotation_at}
use Rattle.rotation.proofs.Rotates.{rotates_fits, rotates_stable}
use Rattle.rotation.proofs.Walks.{rotation_found}
use Rattle.runs.specs.States.{Rotation, Drain, State, Ticket, Call, Answer}
use Rattle.runs.specs.States.Ticket.{numbered}
use Rattle.runs.specs.States.Call.{open_for, commit}
use Rattle.runs.specs.States.Request.{to_open}
use Rattle.runs.specs.States.Answer.{refused, accepted}
use Rattle.runs.specs.Calls.{event, events, short, own_move, drained, opening, open_on, committing, respond, answer}
use Rattle.runs.specs.Onward.{Course, after_commit, after_open, turn, weight, preceded, followed, staying, onward_by, onward, moving_on, ran, Came, Moving, MovedOn}
use Rattle.runs.proofs.Bounds.{length_events}
use Rattle.runs.proofs.Kept.{placed_after}

module _ (m : Market) (C : Policy) (settled : List ℕ) where
  -- what a commit does
  commits : State → Ticket → State × Answer
  commits u t = answer m C settled u (commit t)

  -- the turn is refused, or it makes the moves of a rotation
  pub record Stops (s : State) (w : ℕ) : Type 0 where
    pub number : ℕ
    pub some : number ≡ 0 → ⊥
    pub refuses : answer m C settled s (open_for w) ≡ (s, refused number)

  pub record Moves (s : State) (w : ℕ) : Type 0 where
    pub rotation : Rotation
    pub found : rotation_at m C (place s.placement) w ≡ Some rotation
    pub opens : answer m C settled s (open_for w) ≡ (drained s rotation, accepted (event s.next 1 (own_move s.placement rotation w) ∷ []) (numbered s.next))
    pub makes : answer m C settled (drained s rotation) (commit (numbered s.next)) ≡
        ((committing (drained s rotation) rotation true).0, accepted (events (suc s.next) 2 rotation) Ticket.blank)

  opening_turn : (s : State) (w : ℕ) (r : Rotation) (b : Bool) → rotation_at m C (place s.placement) w ≡ Some r → answer m C settled s (open_for w) ≡ opening s w r b → Stops s w ⊎ Moves s w
  opening_turn s w r true found e = inl (record { number = 44; some = λ q. omega arith; refuses = e })
  opening_turn s w r false found e =
      inr (record { rotation = r; found = found; opens = e; makes = ap (λ (b : Bool). committing (drained s r) r b) (eq-eqb s.next s.next refl) })

  open_turn : (s : State) (w : ℕ) (o : Option Rotation) → rotation_at m C (place s.placement) w ≡ o → answer m C settled s (open_for w) ≡ open_on s w o → Stops s w ⊎ Moves s w
  open_turn s w None found e = inl (record { number = 40; some = λ q. omega arith; refuses = e })
  open_turn s w (Some r) found e = opening_turn s w r (short s.next (1 + length r)) found e

  drain_turn : (s : State) (w : ℕ) (o : Option Drain) → s.drain ≡ o → Stops s w ⊎ Moves s w
  drain_turn s w (Some d) e =
      inl (record { number = 41; some = λ q. omega arith; refuses = ap (λ (o : Option Drain). respond settled s o (to_open w (rotation_at m C (place s.placement) w))) e })
  drain_turn s w None e =
      open_turn s w (rotation_at m C (place s.placement) w) refl
      (ap (λ (o : Option Drain). respond settled s o (to_open w (rotation_at m C (place s.placement) w))) e)

  pub turn_is : (s : State) (w : ℕ) → Stops s w ⊎ Moves s w
  turn_is s w = drain_turn s w s.drain refl

  -- what a turn comes to
  pub stops_turn : (s : State) (w : ℕ) (st : Stops s w) → turn m C settled s w ≡ record { reached = s; events = []; stopped = st.number }
  stops_turn s w st = ap (λ (p : State × Answer). after_open (λ u t. answer m C settled u (commit t)) p.0 p.1) st.refuses

  pub moves_turn : (s : State) (w : ℕ) (mv : Moves s w) → turn m C settled s w ≡
      record {
        reached = (committing (drained s mv.rotation) mv.rotation true).0;
        events = event s.next 1 (own_move s.placement mv.rotation w) ∷ events (suc s.next) 2 mv.rotation;
        stopped = 0;
      }
  moves_turn s w mv =
      ap (λ (p : State × Answer). after_open (λ u t. answer m C settled u (commit t)) p.0 p.1) mv.opens ∙
      ap (λ (p : State × Answer). after_commit (event s.next 1 (own_move s.placement mv.rotation w) ∷ []) p.0 p.1) mv.makes

  -- a turn that is not stopped adds a rotation, and as many events as that weighs
  record Adds (s : State) (c : Course) : Type 0 where
    standing : length c.reached.standing ≡ length s.standing + 1
    heavier : weight c.reached ≡ weight s + length c.events

  moves_add : (s : State) (w : ℕ) (mv : Moves s w) → Adds s (turn m C settled s w)
  moves_add s w mv =
      let r = mv.rotation in
      subst (λ (c : Course). Adds s c) (sym (moves_turn s w mv))
      (record {
        standing = length_push s.standing r;
        heavier =
            let a = length_push s.standing r in
            let b = sum_by_push length s.standing r in
            let c = length_events (suc s.next) 2 r in
            omega arith;
      })

  -- it came there by calls
  ran_push : (s : State) (cs ds : List Call) → ran m C settled s (cs ++ ds) ≡ ran m C settled (ran m C settled s cs) ds
  ran_push s [] ds = refl
  ran_push s (c ∷ cs) ds = ran_push (answer m C settled s c).0 cs ds

  turn_came : (s : State) (w : ℕ) → Came m C settled s (turn m C settled s w).reached
  turn_came s w = elim (turn_is s w) [
    | inl st ↦ ([], sym (ap (λ (c : Course). c.reached) (stops_turn s w st)))
    | inr mv ↦ (
      open_for w ∷ commit (numbered s.next) ∷ [],
      ap (λ (p : State × Answer). (answer m C settled p.0 (commit (numbered s.next))).0) mv.opens ∙
          ap (λ (p : State × Answer). p.0) mv.makes ∙ sym (ap (λ (c : Course). c.reached) (moves_turn s w mv)),
    )
  ]

  came_trans : (a b c : State) → Came m C settled a b → Came m C settled b c → Came m C settled a c
  came_trans a b c (cs, e) (ds, f) = (cs ++ ds, ran_push a cs ds ∙ ap (λ (s : State). ran m C settled s ds) e ∙ f)

  -- and a stable placement leads to a stable one
  turn_stable : Given m C → (s : State) (w : ℕ) → length s.placement ≡ 64 → Stable m C (place s.placement) → Stable m C (place (turn m C settled s w).reached.placement)
  turn_stable given s w size st = elim (turn_is s w) [
    | inl stops ↦ subst (λ (c : Course). Stable m C (place c.reached.placement)) (sym (stops_turn s w stops)) st
    | inr mv ↦
        (let r = mv.rotation in
        let rot : Rotates m C (place s.placement) r = (rotation_found m C (place s.placement) w r mv.found).0 in
        subst (λ (c : Course). Stable m C (place c.reached.placement)) (sym (moves_turn s w mv))
        (subst (λ (x : Placement). Stable m C x) (sym (placed_after s.placement (place s.placement) r size refl (rotates_fits rot))) (rotates_stable given st rot)))
  ]

  -- one turn more of the course, where a worker is on a rotation
  pub onward_some : (n w : ℕ) (s : State) → lowest m.workers (on_rotation m C (place s.placement)) ≡ Some w →
      onward m C settled (suc n) s ≡ followed (turn m C settled s w) (λ u. onward m C settled n u)
  unfolding onward
  onward_some n w s e = ap (λ (o : Option ℕ). onward_by m C settled s (λ u. onward m C settled n u) o) e

  -- and its end where none is
  pub onward_none : (n : ℕ) (s : State) → lowest m.workers (on_rotation m C (place s.placement)) ≡ None → onward m C settled n s ≡ staying s
  unfolding onward
  onward_none zero s e = refl
  onward_none (suc n) s e = ap (λ (o : Option ℕ). onward_by m C settled s (λ u. onward m C settled n u) o) e

  preceded_twice : (es fs : List Event) (c : Course) → preceded es (preceded fs c) ≡ preceded (es ++ fs) c
  preceded_twice es fs c = ap (λ (l : List Event). record { reached = c.reached; events = l; stopped = c.stopped }) (sym (append_assoc es fs c.events))

  -- a turn that nothing stops moves on
  pub unstopped : (s : State) (w : ℕ) → (turn m C settled s w).stopped ≡ 0 → Moves s w
  unstopped s w e = elim (turn_is s w) [
    | inl st ↦ absurd (st.some (sym (ap (λ (c : Course). c.stopped) (stops_turn s w st)) ∙ e))
    | inr mv ↦ mv
  ]

  -- one turn: the log after it has its events behind those before
  module _ (o : State) (before : List Event) (turns n : ℕ) (s : State) (log : List Event) (moving : Moving m C settled o before turns n s log)
      (few : turns < 481) (w : ℕ) (found : lowest m.workers (on_rotation m C (place s.placement)) ≡ Some w)
      (new : List Event) (long : n ≤ length log) (e : new ≡ take n log ++ ((turn m C settled s w).events ++ drop (n + length (turn m C settled s w).events) log)) where
    abbrev c : Course
    c = turn m C settled s w

    abbrev more : ℕ
    more = n + length c.events

    front : length (take n log ++ c.events) ≡ more
    front = length-append (take n log) c.events ∙ (let a = length-take n log in omega arith)

    split : new ≡ (take n log ++ c.events) ++ drop more log
    split = e ∙ sym (append_assoc (take n log) c.events (drop more log))

    taken_front : take more new ≡ take n log ++ c.events
    taken_front = ap (take more) split ∙ take_at (take n log ++ c.events) (drop more log) more front

    -- past the events the log is as it was
    past : drop more log ≡ drop more before
    past =
        let size : length (take n log) ≡ n = length-take n log ∙ omega arith in
        let same : drop n log ≡ drop n before = ap (drop n) moving.written ∙ drop_at (take n log) (drop n before) n size in
        sym (drop-drop (length c.events) n log) ∙ ap (drop (length c.events)) same ∙ drop-drop (length c.events) n before

    next_course : moving_on m C settled o ≡ preceded (take n log) (followed c (λ u. onward m C settled (480 - turns) u))
    next_course =
        let q : 481 - turns ≡ suc (480 - turns) = omega arith in
        moving.course ∙ ap (λ (d : Course). preceded (take n log) d) (ap (λ (k : ℕ). onward m C settled k s) q ∙ onward_some (480 - turns) w s found)

    pub moving_turn : Given m C → length s.placement ≡ 64 → c.stopped ≡ 0 → Moving m C settled o before (turns + 1) more c.reached new
    moving_turn given size free =
        let adds = moves_add s w (unstopped s w free) in
        let q : 480 - turns ≡ 481 - (turns + 1) = omega arith in
        record {
          course =
              next_course ∙
              ap (λ (b : Bool). preceded (take n log) (cond b (preceded c.events (onward m C settled (480 - turns) c.reached)) c)) (eq-eqb c.stopped 0 free) ∙
              preceded_twice (take n log) c.events (onward m C settled (480 - turns) c.reached) ∙
              ap₂ (λ (es : List Event) (k : ℕ). preceded es (onward m C settled k c.reached)) (sym taken_front) q;
          written = split ∙ ap₂ (λ (a b : List Event). a ++ b) (sym taken_front) past;
          room = omega (arith, moving.room, adds.heavier);
          stands = omega (arith, moving.stands, adds.standing);
          stable = λ st. turn_stable given s w size (moving.stable st);
          came = came_trans o s c.reached moving.came (turn_came s w);
        }

    pub moving_stops : Given m C → length s.placement ≡ 64 → (c.stopped ≡ 0 → ⊥) → MovedOn m C settled o before more c.stopped c.reached new
    moving_stops given size stopped =
        let all : moving_on m C settled o ≡ preceded (take n log) c =
        next_course ∙
        ap (λ (b : Bool). preceded (take n log) (cond b (preceded c.events (onward m C settled (480 - turns) c.reached)) c)) (ne_eqb c.stopped 0 stopped) in
        let count : more ≡ length (moving_on m C settled o).events = sym (ap (λ (d : Course). length d.events) all ∙ front) in
        record {
          reached = sym (ap (λ (d : Course). d.reached) all);
          refusal = sym (ap (λ (d : Course). d.stopped) all);
          count = count;
          written =
              split ∙ ap₂ (λ (a b : List Event). a ++ b) (sym (ap (λ (d : Course). d.events) all)) (past ∙ ap (λ (k : ℕ). drop k before) count);
          came = came_trans o s c.reached moving.came (turn_came s w);
          stable = λ st. turn_stable given s w size (moving.stable st);
          best = λ z. absurd (stopped z);
        }

  -- no worker is on a rotation any more
  pub moving_ends : (o : State) (before : List Event) (turns n : ℕ) (s : State) (log : List Event) → Moving m C settled o before turns n s log → n ≤ length log →
      lowest m.workers (on_rotation m C (place s.placement)) ≡ None → (Stable m C (place s.placement) → TenantBest m C (place s.placement)) →
      MovedOn m C settled o before n 0 s log
  moving_ends o before turns n s log moving long none best =
      let all : moving_on m C settled o ≡ preceded (take n log) (staying s) =
      moving.course ∙ ap (λ (d : Course). preceded (take n log) d) (onward_none (481 - turns) s none) in
      let written : take n log ≡ (moving_on m C settled o).events = sym (ap (λ (d : Course). d.events) all ∙ append-nil (take n log)) in
      let count : n ≡ length (moving_on m C settled o).events = sym (ap length (sym written) ∙ length-take n log ∙ omega arith) in
      record {
        reached = sym (ap (λ (d : Course). d.reached) all);
        refusal = sym (ap (λ (d : Course). d.stopped) all);
        count = count;
        written = moving.written ∙ ap₂ (λ (a : List Event) (k : ℕ). a ++ drop k before) written count;
        came = moving.came;
        stable = moving.stable;
        best = λ _ st. best (moving.stable st);
      }
