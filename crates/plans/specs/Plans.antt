-- The plan of a sheet, and the plan of the sheet that an input says.
use Rattle.std.specs.Prelude.{ℕ, List, take, Ok, Err, Result}
use Rattle.fleet.specs.Market.{Market}
use Rattle.fleet.specs.declared.Event.{Event}
use Rattle.policy.specs.Choice.{Policy}
use Rattle.sheet.specs.Sheets.{SheetText}
use Rattle.sheet.specs.Says.{market_said, policy_said}
use Rattle.matching.specs.Settling.{settled_rounds}
use Rattle.runs.specs.Calls.{settled_list, made}
use Rattle.runs.specs.Onward.{Course, moving_on}
use Rattle.report.specs.declared.input.Unread.{Unread}
use Rattle.plans.specs.declared.Plan.{Plan}

-- how many workers there are, the rounds of settling, the settled placement, the events after it, and the next number
pub record PlanText : Type 0 where
  pub workers : ℕ
  pub rounds : ℕ
  pub settled : List ℕ
  pub events : List Event
  pub next : ℕ

-- a plan of the program: the events are the first so many of its log
abbrev pub plan_shown : Plan → PlanText
plan_shown p = record { workers = p.settlement.workers; rounds = p.settlement.rounds; settled = p.settlement.places; events = take p.events p.log; next = p.next }

-- the plan of an input that the program made, or why it says no sheet
abbrev pub plan_told : Result Plan Unread → Result PlanText Unread
plan_told (Ok p) = Ok (plan_shown p)
plan_told (Err u) = Err u

-- a new board of a market and a policy, from event number 1 on, and then rotation by rotation until none is left
abbrev pub day_of : Market → Policy → Course
day_of m C = moving_on m C (settled_list m C) (made m C 1)

-- the plan of a market and a policy
abbrev pub plan_for : Market → Policy → PlanText
plan_for m C = record {
  workers = m.workers;
  rounds = settled_rounds m C;
  settled = settled_list m C;
  events = (day_of m C).events;
  next = (day_of m C).reached.next;
}

-- the plan of a sheet
abbrev pub plan_of : SheetText → PlanText
plan_of s = plan_for (market_said s) (policy_said s)
