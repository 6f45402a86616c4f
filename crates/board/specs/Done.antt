-- What each call at a board leaves and answers, as one fact.
use Rattle.std.specs.Prelude.{◌≡◌, ℕ, List, Result}
use Rattle.fleet.specs.declared.Event.{Event}
use Rattle.policy.specs.Choice.{Policy}
use Rattle.runs.specs.States.{Call}
use Rattle.board.specs.declared.board.Board.{Board}
use Rattle.board.specs.declared.refusal.Refusal.{Refusal}
use Rattle.board.specs.Shown.{called, GoesOn}
use Rattle.board.specs.Answers.{Answered}

-- the call c was made at the board b, whose tenants choose by `chosen` of its policy: it is d now, with the policy it had, its table has answered as the call
-- says, and whatever calls led to b lead to d with this one more
pub record CallDone {P : Type 0} (chosen : P → Policy) (c : Call) (b d : Board P) (result : Result ℕ Refusal) (before after : List Event) : Type 0 where
  pub answered : Answered b.table d.table result before after (called (chosen b.policy) b.table c)
  pub policy : d.policy ≡ b.policy
  pub goes_on : GoesOn (chosen b.policy) c b.table d.table
