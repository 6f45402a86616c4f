-- How a board's answers are told: a count of events or a refusal, the slip, and the ticket.
use Rattle.std.specs.Prelude.{◌≡◌, ℕ, List, ◌++◌, length, drop, Some, None, Ok, Err, Option, Result}
use Rattle.fleet.specs.declared.Event.{Event}
use Rattle.runs.specs.States as States
use Rattle.runs.specs.States.{State, Answer}
use Rattle.runs.specs.States.Ticket.{blank, numbered}
use Rattle.runs.specs.States.Answer.{refused, accepted}
use Rattle.board.specs.declared.refusal.Refusal.{Refusal}
use Rattle.board.specs.declared.refusal.Refusal.TheVariants.{NoRotation, DrainSet, NoDrain, OtherTicket, NumbersShort, NoneStanding}
use Rattle.board.specs.declared.ticket.Ticket.{Ticket}
use Rattle.board.specs.declared.table.Table.{Table}
use Rattle.board.specs.Shown.{ticket_in, state as state_of, Keeps}

-- the refusals by number
abbrev pub refusal_number : Refusal → ℕ
refusal_number NoRotation = 40
refusal_number DrainSet = 41
refusal_number NoDrain = 42
refusal_number OtherTicket = 43
refusal_number NumbersShort = 44
refusal_number NoneStanding = 45

-- the number of the refusal that stopped something, 0 where none did
abbrev pub stop_number : Option Refusal → ℕ
stop_number None = 0
stop_number (Some e) = refusal_number e

-- how many events there are, or the refusal's number, as code answers it
abbrev pub said : Result ℕ Refusal → Result ℕ ℕ
said (Ok n) = Ok n
said (Err e) = Err (refusal_number e)

-- and as it should be
abbrev pub count_in : Answer → Result ℕ ℕ
count_in (refused n) = Err n
count_in (accepted es t) = Ok (length es)

-- the slip after the answer: the events in front of what it held past them, or as it was
abbrev pub slip_after : Answer → List Event → List Event
slip_after (refused n) slip = slip
slip_after (accepted es t) slip = es ++ drop (length es) slip

-- the ticket that is answered, blank for a refusal
abbrev pub ticket_of : Answer → States.Ticket
ticket_of (refused n) = blank
ticket_of (accepted es t) = t

-- a ticket in code
abbrev pub ticket_said : Ticket → States.Ticket
ticket_said t = ticket_in t.drain

-- the number of a ticket that is not blank
abbrev pub ticket_number : States.Ticket → Option ℕ
ticket_number blank = None
ticket_number (numbered n) = Some n

-- a table t that becomes u has answered a call by p: its state, the result, and the slip before and after are as told there, and its lists and its settled placement stay
pub record Answered (t u : Table) (result : Result ℕ Refusal) (before after : List Event) (p : State × Answer) : Type 0 where
  pub state : state_of u ≡ p.0
  pub answer : said result ≡ count_in p.1
  pub slip : after ≡ slip_after p.1 before
  pub keeps : Keeps t u
