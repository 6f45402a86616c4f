-- Worked cases: what boards of small markets answer, and what is told of small tables, as one list that one computed test checks.
use Rattle.std.specs.Prelude.{ℕ, ◌-◌, ◌^◌, Bool, true, false, ◌&&◌, IsTrue, List, [], ◌∷◌, map, take, ◌==◌, nat_eq}
use Rattle.fleet.specs.Market.{Market}
use Rattle.fleet.specs.declared.Event.{Event}
use Rattle.policy.specs.Choice.{Policy}
use Rattle.policy.specs.Kinds.{ranked_policy, seated_policy}
use Rattle.policy.specs.Combined.{joined}
use Rattle.policy.specs.Faults.{table_fault}
use Rattle.matching.specs.Settling.{settled_rounds}
use Rattle.rotation.specs.Cases.{market_of, first_of, same_entries, TableCase, fault_told, tables_of_two}
use Rattle.runs.specs.States.{State, Ticket, Call, Answer}
use Rattle.runs.specs.States.Ticket.{blank, numbered}
use Rattle.runs.specs.States.Call.{open_for, commit, withdraw, back, rewind}
use Rattle.runs.specs.States.Answer.{refused, accepted}
use Rattle.runs.specs.Calls.{settled_list, call, made, board}

-- a case: the market, its policy, a first number and calls; then the rounds, the settled tenants of the workers, the answers, the tenants at the end and the next number
pub record Case : Type 0 where
  pub market : Market
  pub policy : Policy
  pub first : ℕ
  pub calls : List Call
  pub rounds : ℕ
  pub settled : List ℕ
  pub answers : List Answer
  pub placed : List ℕ
  pub next : ℕ

-- an event by its number, kind, worker, from and to
abbrev pub ev : ℕ → ℕ → ℕ → ℕ → ℕ → Event
ev n kind w a b = record { number = n; kind = kind; worker = w; from = a; to = b }

-- the tickets are the same
abbrev pub same_ticket : Ticket → Ticket → Bool
same_ticket blank blank = true
same_ticket blank (numbered n) = false
same_ticket (numbered n) blank = false
same_ticket (numbered n) (numbered k) = n == k

-- the events are the same
abbrev pub same_event : Event → Event → Bool
same_event e f =
    (e.number == f.number) && (e.kind == f.kind && (e.worker == f.worker && (e.from == f.from && e.to == f.to)))

-- the answers are the same
abbrev pub same_answer : Answer → Answer → Bool
same_answer (refused n) (refused k) = n == k
same_answer (refused n) (accepted es t) = false
same_answer (accepted es t) (refused n) = false
same_answer (accepted es t) (accepted fs u) = same_entries same_event es fs && same_ticket t u

-- what each call answers
abbrev pub answers_of : Market → Policy → State → List Call → List Answer
answers_of m C s [] = []
answers_of m C s (c ∷ cs) = (call m C s c).1 ∷ answers_of m C (call m C s c).0 cs

-- the case is as it says
abbrev pub holds : Case → Bool
holds c =
    let m = c.market in
    let C = c.policy in
    let end = board m C c.first c.calls in
    (settled_rounds m C == c.rounds) &&
    (same_entries nat_eq (take m.workers (settled_list m C)) c.settled &&
    (same_entries same_answer (answers_of m C (made m C c.first) c.calls) c.answers &&
    (same_entries nat_eq (take m.workers end.placement) c.placed && end.next == c.next)))

-- a worked case: a market, or a table
pub data Worked : Type 0 where
  of_market : Case → Worked
  of_table : TableCase → Worked

-- the worked case is as it says
abbrev pub worked_holds : Worked → Bool
worked_holds (of_market c) = holds c
worked_holds (of_table c) = same_entries nat_eq (fault_told (table_fault (0 ∷ 1 ∷ []) c.entries)) c.told

-- so is each case of the list
abbrev pub all_hold : List Worked → Bool
all_hold [] = true
all_hold (c ∷ cs) = worked_holds c && all_hold cs

-- two workers that swap tenants, and one that gets none
abbrev pub ring : ℕ → List Call → List Answer → List ℕ → ℕ → Case
ring first calls answers placed next = record {
  market = market_of 2 ((0 ∷ 1 ∷ []) ∷ (1 ∷ 0 ∷ []) ∷ (0 ∷ []) ∷ []);
  policy = ranked_policy (first_of 1 (1 ∷ 0 ∷ 2 ∷ []) ∷ first_of 1 (0 ∷ 1 ∷ []) ∷ []);
  first = first;
  calls = calls;
  rounds = 2;
  settled = 0 ∷ 1 ∷ 255 ∷ [];
  answers = answers;
  placed = placed;
  next = next;
}

-- one rotation, and then none is left
abbrev pub ring_turn : Case
ring_turn = ring 1 (open_for 2 ∷ open_for 0 ∷ commit (numbered 1) ∷ open_for 1 ∷ [])
    (refused 40
    ∷ accepted (ev 1 1 0 0 1 ∷ []) (numbered 1)
    ∷ accepted (ev 2 2 0 0 1 ∷ ev 3 2 1 1 0 ∷ []) blank
    ∷ refused 40
    ∷ [])
    (1 ∷ 0 ∷ 255 ∷ []) 4

-- there and back to where it settled
abbrev pub ring_rewind : Case
ring_rewind = ring 1 (open_for 0 ∷ commit (numbered 1) ∷ rewind ∷ [])
    (accepted (ev 1 1 0 0 1 ∷ []) (numbered 1)
    ∷ accepted (ev 2 2 0 0 1 ∷ ev 3 2 1 1 0 ∷ []) blank
    ∷ accepted (ev 4 4 0 1 0 ∷ ev 5 4 1 0 1 ∷ []) blank
    ∷ [])
    (0 ∷ 1 ∷ 255 ∷ []) 6

-- the refusals by the drain, the ticket and what stands; then a withdraw, a commit and a back
abbrev pub ring_refusals : Case
ring_refusals = ring 1
    (commit (numbered 1) ∷ withdraw blank ∷ back ∷ open_for 0 ∷ open_for 0 ∷ back ∷ commit (numbered 7) ∷ commit blank
    ∷ withdraw (numbered 1) ∷ open_for 1 ∷ commit (numbered 2) ∷ back ∷ [])
    (refused 42 ∷ refused 42 ∷ refused 45
    ∷ accepted (ev 1 1 0 0 1 ∷ []) (numbered 1)
    ∷ refused 41 ∷ refused 41 ∷ refused 43 ∷ refused 43
    ∷ accepted [] blank
    ∷ accepted (ev 2 1 1 1 0 ∷ []) (numbered 2)
    ∷ accepted (ev 3 2 0 0 1 ∷ ev 4 2 1 1 0 ∷ []) blank
    ∷ accepted (ev 5 3 0 1 0 ∷ ev 6 3 1 0 1 ∷ []) blank
    ∷ [])
    (0 ∷ 1 ∷ 255 ∷ []) 7

-- the last first number from which an open is accepted
abbrev pub ring_last : Case
ring_last =
    ring (2 ^ 64 - 4) (open_for 0 ∷ []) (accepted (ev (2 ^ 64 - 4) 1 0 0 1 ∷ []) (numbered (2 ^ 64 - 4)) ∷ []) (0 ∷ 1 ∷ 255 ∷ []) (2 ^ 64 - 3)

-- one more, and numbers are short
abbrev pub ring_short : Case
ring_short = ring (2 ^ 64 - 3) (open_for 0 ∷ []) (refused 44 ∷ []) (0 ∷ 1 ∷ 255 ∷ []) (2 ^ 64 - 3)

-- a worker whose step puts nobody out is on no rotation
abbrev pub spare : Case
spare = record {
  market = market_of 3 ((0 ∷ 1 ∷ 2 ∷ []) ∷ (2 ∷ 0 ∷ []) ∷ []);
  policy = ranked_policy (first_of 1 (1 ∷ 0 ∷ []) ∷ first_of 1 (0 ∷ []) ∷ first_of 1 (0 ∷ 1 ∷ []) ∷ []);
  first = 1;
  calls = open_for 0 ∷ [];
  rounds = 1;
  settled = 0 ∷ 2 ∷ [];
  answers = refused 40 ∷ [];
  placed = 0 ∷ 2 ∷ [];
  next = 1;
}

-- a worker that only leads into a rotation is on none, until that one was made
abbrev pub shared : Case
shared = record {
  market = market_of 3 ((0 ∷ 1 ∷ []) ∷ (0 ∷ 2 ∷ []) ∷ (1 ∷ 0 ∷ []) ∷ (2 ∷ 0 ∷ []) ∷ []);
  policy = ranked_policy (first_of 2 (2 ∷ 3 ∷ 0 ∷ 1 ∷ []) ∷ first_of 1 (0 ∷ 2 ∷ []) ∷ first_of 1 (1 ∷ 3 ∷ []) ∷ []);
  first = 1;
  calls = open_for 0 ∷ open_for 1 ∷ commit (numbered 1) ∷ open_for 0 ∷ commit (numbered 4) ∷ [];
  rounds = 1;
  settled = 0 ∷ 0 ∷ 1 ∷ 2 ∷ [];
  answers =
      refused 40
      ∷ accepted (ev 1 1 1 0 2 ∷ []) (numbered 1)
      ∷ accepted (ev 2 2 1 0 2 ∷ ev 3 2 3 2 0 ∷ []) blank
      ∷ accepted (ev 4 1 0 0 1 ∷ []) (numbered 4)
      ∷ accepted (ev 5 2 0 0 1 ∷ ev 6 2 2 1 0 ∷ []) blank
      ∷ [];
  placed = 1 ∷ 2 ∷ 0 ∷ 0 ∷ [];
  next = 7;
}

-- one rotation of all four workers, two of them at a tenant with caps by class
abbrev pub twice : Case
twice = record {
  market = market_of 3 ((2 ∷ 1 ∷ []) ∷ (2 ∷ 0 ∷ []) ∷ (0 ∷ 2 ∷ []) ∷ (1 ∷ 2 ∷ []) ∷ []);
  policy = joined 2 (ranked_policy (first_of 1 (1 ∷ 2 ∷ []) ∷ first_of 1 (0 ∷ 3 ∷ []) ∷ []))
      (seated_policy (1 ∷ 2 ∷ 1 ∷ 2 ∷ []) (record { overall = 2; caps = 0 ∷ 1 ∷ 1 ∷ []; list = 2 ∷ 3 ∷ 0 ∷ 1 ∷ [] } ∷ []));
  first = 1;
  calls = open_for 0 ∷ commit (numbered 1) ∷ [];
  rounds = 1;
  settled = 2 ∷ 2 ∷ 0 ∷ 1 ∷ [];
  answers =
      accepted (ev 1 1 0 2 1 ∷ []) (numbered 1)
      ∷ accepted (ev 2 2 0 2 1 ∷ ev 3 2 1 2 0 ∷ ev 4 2 2 0 2 ∷ ev 5 2 3 1 2 ∷ []) blank
      ∷ [];
  placed = 1 ∷ 0 ∷ 2 ∷ 2 ∷ [];
  next = 6;
}

-- the cases
abbrev pub cases : List Worked
cases =
    of_market ring_turn ∷ of_market ring_rewind ∷ of_market ring_refusals ∷ of_market ring_last ∷ of_market ring_short
    ∷ of_market spare ∷ of_market shared ∷ of_market twice ∷ map (λ c. of_table c) tables_of_two

-- every case holds
abbrev pub CasesHold : Type 0
CasesHold = IsTrue (all_hold cases)
