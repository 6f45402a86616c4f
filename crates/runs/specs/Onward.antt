-- A board that moves on: it opens and commits by the lowest worker on a rotation, until none is left.
use Rattle.std.specs.Prelude.{◌≡◌, ℕ, zero, suc, ◌+◌, ◌-◌, ◌≤◌, cond, List, [], ◌∷◌, ◌++◌, length, take, drop, Some, None, sum_by, Option, ◌==◌}
use Rattle.fleet.specs.Sets.{lowest}
use Rattle.fleet.specs.Market.{Market}
use Rattle.fleet.specs.declared.Event.{Event}
use Rattle.policy.specs.Choice.{Policy}
use Rattle.matching.specs.Entries.{place}
use Rattle.matching.specs.Stable.{Stable, TenantBest}
use Rattle.rotation.specs.Moves.{on_rotation}
use Rattle.runs.specs.States.{State, Ticket, Call, Answer}
use Rattle.runs.specs.States.Call.{open_for, commit}
use Rattle.runs.specs.States.Answer.{refused, accepted}
use Rattle.runs.specs.Calls.{answer}

-- where that leads: the state, the events, and the number of the refusal that stopped it, 0 where none did
pub record Course : Type 0 where
  pub reached : State
  pub events : List Event
  pub stopped : ℕ

-- after a commit, behind these events
abbrev pub after_commit : List Event → State → Answer → Course
after_commit es s (refused n) = record { reached = s; events = es; stopped = n }
after_commit es s (accepted fs t) = record { reached = s; events = es ++ fs; stopped = 0 }

-- after an open, by what a commit with its ticket would do
abbrev pub after_open : (State → Ticket → State × Answer) → State → Answer → Course
after_open commits s (refused n) = record { reached = s; events = []; stopped = n }
after_open commits s (accepted es t) = let p = commits s t in after_commit es p.0 p.1

-- one turn: open for worker w, and commit with the ticket of that
abbrev pub turn : Market → Policy → List ℕ → State → ℕ → Course
turn m C settled s w = let p = answer m C settled s (open_for w) in after_open (λ u t. answer m C settled u (commit t)) p.0 p.1

-- events, and then a course
abbrev pub preceded : List Event → Course → Course
preceded es c = record { reached = c.reached; events = es ++ c.events; stopped = c.stopped }

-- a course, and what `rest` comes to from where it leads, unless it was stopped
abbrev pub followed : Course → (State → Course) → Course
followed c rest = cond (c.stopped == 0) (preceded c.events (rest c.reached)) c

-- nothing is done
abbrev pub staying : State → Course
staying s = record { reached = s; events = []; stopped = 0 }

-- a turn for the worker that was found, and then `rest`
abbrev pub onward_by : Market → Policy → List ℕ → State → (State → Course) → Option ℕ → Course
onward_by m C settled s rest None = staying s
onward_by m C settled s rest (Some w) = followed (turn m C settled s w) rest

-- at most so many turns; shut, so that no proof makes them all
unfoldable pub onward : Market → Policy → List ℕ → ℕ → State → Course
onward m C settled zero s = staying s
onward m C settled (suc n) s =
    onward_by m C settled s (λ u. onward m C settled n u) (lowest m.workers (on_rotation m C (place s.placement)))

-- until none is left: at most 480 rotations stand, so 481 turns are never made
abbrev pub moving_on : Market → Policy → List ℕ → State → Course
moving_on m C settled s = onward m C settled 481 s

-- how many rotations stand and how many moves they have, which are as many events of opens and commits
abbrev pub weight : State → ℕ
weight s = length s.standing + sum_by length s.standing

-- the state after calls at a board with this settled placement
abbrev pub ran : Market → Policy → List ℕ → State → List Call → State
ran m C settled s [] = s
ran m C settled s (c ∷ cs) = ran m C settled (answer m C settled s c).0 cs

-- s comes from o by some calls
abbrev pub Came : Market → Policy → List ℕ → State → State → Type 0
Came m C settled o s = (cs : List Call) × (ran m C settled o cs ≡ s)

-- after so many turns from the state o the state is s, and the log, which held `before`, has the first n events
pub record Moving (m : Market) (C : Policy) (settled : List ℕ) (o : State) (before : List Event) (turns n : ℕ) (s : State) (log : List Event) : Type 0 where
  pub course : moving_on m C settled o ≡ preceded (take n log) (onward m C settled (481 - turns) s)
  pub written : log ≡ take n log ++ drop n before
  pub room : n ≤ weight s
  pub stands : turns ≤ length s.standing
  pub stable : Stable m C (place o.placement) → Stable m C (place s.placement)
  pub came : Came m C settled o s

-- the board has moved on from the state o to s: what it came to
pub record MovedOn (m : Market) (C : Policy) (settled : List ℕ) (o : State) (before : List Event) (n stopped : ℕ) (s : State) (log : List Event) : Type 0 where
  -- state, events and refusal are the defined ones, and the events stand in the log in front of what it held past them
  pub reached : s ≡ (moving_on m C settled o).reached
  pub refusal : stopped ≡ (moving_on m C settled o).stopped
  pub count : n ≡ length (moving_on m C settled o).events
  pub written : log ≡ (moving_on m C settled o).events ++ drop (length (moving_on m C settled o).events) before
  -- it came there by calls
  pub came : Came m C settled o s
  -- a stable placement leads to a stable one, and, where no call was refused, to the one that is best for all tenants
  pub stable : Stable m C (place o.placement) → Stable m C (place s.placement)
  pub best : stopped ≡ 0 → Stable m C (place o.placement) → TenantBest m C (place s.placement)
