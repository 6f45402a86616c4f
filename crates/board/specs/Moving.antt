-- What a turn of a board that moves on leaves: an open by a worker, and the commit of what it drained.
use Rattle.std.specs.Prelude.{◌≡◌, ℕ, ◌+◌, List, [], ◌++◌, length, take, drop, Option, Result}
use Rattle.std.specs.Result.{MatchResult}
use Rattle.fleet.specs.Lists.{market}
use Rattle.fleet.specs.Sets.{lowest}
use Rattle.fleet.specs.declared.Event.{Event}
use Rattle.policy.specs.Choice.{Policy}
use Rattle.matching.specs.Entries.{place}
use Rattle.rotation.specs.Moves.{on_rotation}
use Rattle.runs.specs.Onward.{Course, turn}
use Rattle.board.specs.declared.board.Board.{Board}
use Rattle.board.specs.declared.refusal.Refusal.{Refusal}
use Rattle.board.specs.declared.table.Table.{Table}
use Rattle.board.specs.Answers.{refusal_number}
use Rattle.board.specs.Shown.{state as state_of, Keeps}

-- the lowest worker on a rotation, for tenants that choose by C
abbrev pub lowest_at : Policy → Table → Option ℕ
lowest_at C t = lowest (market t.lists).workers (on_rotation (market t.lists) C (place t.current.places))

-- what the turn of a worker comes to
abbrev pub turn_at : Policy → Table → ℕ → Course
turn_at C t worker = turn (market t.lists) C t.settled.places (state_of t) worker

-- where a turn is stopped by a refusal it has no events; where it is not, its events end at the place that is answered
abbrev pub Ends : Course → ℕ → Result ℕ Refusal → Type 0
Ends c at result = MatchResult result (λ end. (end ≡ at + length c.events) × (c.stopped ≡ 0)) (λ e. (c.events ≡ []) × (refusal_number e ≡ c.stopped))

-- the events of a course stand in the log from a place on, and nothing else changed
abbrev pub Written : Course → ℕ → List Event → List Event → Type 0
Written c at before after = after ≡ take at before ++ (c.events ++ drop (at + length c.events) before)

-- the turn of a worker was made at the board b, whose tenants choose by `chosen` of its policy: it is d now
pub record TurnDone {P : Type 0} (chosen : P → Policy) (worker at : ℕ) (b d : Board P) (result : Result ℕ Refusal) (before after : List Event) : Type 0 where
  pub state : state_of d.table ≡ (turn_at (chosen b.policy) b.table worker).reached
  pub ends : Ends (turn_at (chosen b.policy) b.table worker) at result
  pub log : Written (turn_at (chosen b.policy) b.table worker) at before after
  pub keeps : Keeps b.table d.table
  pub policy : d.policy ≡ b.policy
