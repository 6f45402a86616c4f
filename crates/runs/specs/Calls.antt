-- What each call does: the state after it and its answer, and the state after a list of calls.
use Rattle.std.specs.Prelude.{ℕ, suc, ◌+◌, ◌-◌, ◌^◌, Bool, true, false, not, List, [], ◌∷◌, ◌++◌, length, Some, None, Option, ◌==◌, nat_lt}
use Rattle.fleet.specs.Sets.{Set}
use Rattle.fleet.specs.Market.{Market}
use Rattle.fleet.specs.declared.Move.{Move}
use Rattle.fleet.specs.declared.Event.{Event}
use Rattle.policy.specs.Choice.{Policy}
use Rattle.matching.specs.Entries.{tabulate, place}
use Rattle.matching.specs.Settling.{settled_placement}
use Rattle.rotation.specs.Moves.{move_from, carried, moved, reversed, rotation_at}
use Rattle.runs.specs.States.{Rotation, Drain, State, Ticket, Call, Request, Answer}
use Rattle.runs.specs.States.Ticket.{blank, numbered}
use Rattle.runs.specs.States.Call.{open_for, commit, withdraw, back, rewind}
use Rattle.runs.specs.States.Request.{to_open, to_commit, to_withdraw, to_back, to_rewind}
use Rattle.runs.specs.States.Answer.{refused, accepted}

-- the event of one move: its number, its kind (1 a drain is opened, 2 a rotation is made, 3 one is taken back, 4 the board is rewound) and who goes where
abbrev pub event : ℕ → ℕ → Move → Event
event n kind k = record { number = n; kind = kind; worker = k.worker; from = k.from; to = k.to }

-- the events of the moves, numbered from n on
abbrev pub events : ℕ → ℕ → List Move → List Event
events n kind [] = []
events n kind (k ∷ ks) = event n kind k ∷ events (suc n) kind ks

-- event numbers are short for so many more: the next one is at most 2^64 - 1
abbrev pub short : ℕ → ℕ → Bool
short next n = nat_lt (2 ^ 64 - 1 - next) n

-- the ticket is that of the drain with this number
abbrev pub matches : Ticket → ℕ → Bool
matches blank n = false
matches (numbered k) n = k == n

-- the last rotation, if there is one
abbrev pub last_of : List Rotation → Option Rotation
last_of [] = None
last_of (r ∷ []) = Some r
last_of (r ∷ s ∷ rs) = last_of (s ∷ rs)

-- all rotations but the last
abbrev pub but_last : List Rotation → List Rotation
but_last [] = []
but_last (r ∷ []) = []
but_last (r ∷ s ∷ rs) = r ∷ but_last (s ∷ rs)

-- the workers whose tenant differs from the settled one
abbrev pub displaced : List ℕ → List ℕ → Set
displaced settled current w = not (place current w == place settled w)

-- the moves that return them
abbrev pub returns : List ℕ → List ℕ → List Move
returns settled current = carried (place current) (place settled) (displaced settled current) 64

-- where the moves of a rotation take worker w
abbrev pub own_move : List ℕ → Rotation → ℕ → Move
own_move l r w = move_from (place l) (place (moved r l)) w

-- a refused call changes nothing
abbrev pub refuse : State → ℕ → State × Answer
refuse s n = (s, refused n)

-- the state with a drain of the rotation r under the next number
abbrev pub drained : State → Rotation → State
drained s r = record { placement = s.placement; standing = s.standing; drain = Some (record { number = s.next; rotation = r }); next = suc s.next }

-- open for worker w, which is on the rotation r, where numbers are short or not
abbrev pub opening : State → ℕ → Rotation → Bool → State × Answer
opening s w r true = refuse s 44
opening s w r false = (drained s r, accepted (event s.next 1 (own_move s.placement r w) ∷ []) (numbered s.next))

-- open for worker w, by its rotation
abbrev pub open_on : State → ℕ → Option Rotation → State × Answer
open_on s w None = refuse s 40
open_on s w (Some r) = opening s w r (short s.next (1 + length r))

-- commit of the drained rotation r, where the ticket matches or not
abbrev pub committing : State → Rotation → Bool → State × Answer
committing s r false = refuse s 43
committing s r true = (
  record { placement = moved r s.placement; standing = s.standing ++ (r ∷ []); drain = None; next = s.next + length r },
  accepted (events s.next 2 r) blank,
)

-- withdraw, where the ticket matches or not
abbrev pub withdrawing : State → Bool → State × Answer
withdrawing s false = refuse s 43
withdrawing s true =
    (record { placement = s.placement; standing = s.standing; drain = None; next = s.next }, accepted [] blank)

-- back over the last rotation r, where numbers are short or not
abbrev pub backing : State → Rotation → Bool → State × Answer
backing s r true = refuse s 44
backing s r false = (
  record { placement = moved (reversed r) s.placement; standing = but_last s.standing; drain = None; next = s.next + length r },
  accepted (events s.next 3 (reversed r)) blank,
)

-- back, by the last rotation
abbrev pub back_over : State → Option Rotation → State × Answer
back_over s None = refuse s 45
back_over s (Some r) = backing s r (short s.next (length r))

-- rewind to the settled placement by the returns r, where numbers are short or not
abbrev pub rewinding : State → List ℕ → List Move → Bool → State × Answer
rewinding s settled r true = refuse s 44
rewinding s settled r false =
    (record { placement = settled; standing = []; drain = None; next = s.next + length r }, accepted (events s.next 4 r) blank)

-- rewind, by the workers whose tenant differs from the settled one
abbrev pub rewind_to : State → List ℕ → State × Answer
rewind_to s settled = let r = returns settled s.placement in rewinding s settled r (short s.next (length r))

-- what is done, by the drain and the request together; `settled` is the settled placement
abbrev pub respond : List ℕ → State → Option Drain → Request → State × Answer
respond settled s None (to_open w r) = open_on s w r
respond settled s None (to_commit t) = refuse s 42
respond settled s None (to_withdraw t) = refuse s 42
respond settled s None to_back = back_over s (last_of s.standing)
respond settled s None to_rewind = rewind_to s settled
respond settled s (Some d) (to_open w r) = refuse s 41
respond settled s (Some d) (to_commit t) = committing s d.rotation (matches t d.number)
respond settled s (Some d) (to_withdraw t) = withdrawing s (matches t d.number)
respond settled s (Some d) to_back = refuse s 41
respond settled s (Some d) to_rewind = rewind_to s settled

-- a call at a placement, with the rotation of its worker
abbrev pub request : Market → Policy → List ℕ → Call → Request
request m C l (open_for w) = to_open w (rotation_at m C (place l) w)
request m C l (commit t) = to_commit t
request m C l (withdraw t) = to_withdraw t
request m C l back = to_back
request m C l rewind = to_rewind

-- one call at a board with this settled placement
abbrev pub answer : Market → Policy → List ℕ → State → Call → State × Answer
answer m C settled s c = respond settled s s.drain (request m C s.placement c)

-- the settled placement, 64 tenants by worker
abbrev pub settled_list : Market → Policy → List ℕ
settled_list m C = tabulate 64 (settled_placement m C)

-- one call
abbrev pub call : Market → Policy → State → Call → State × Answer
call m C s c = answer m C (settled_list m C) s c

-- a new board, with its first event number
abbrev pub made : Market → Policy → ℕ → State
made m C first = record { placement = settled_list m C; standing = []; drain = None; next = first }

-- the state after the calls, one after another
abbrev pub run : Market → Policy → State → List Call → State
run m C s [] = s
run m C s (c ∷ cs) = run m C (call m C s c).0 cs

-- the board made with this first number, after these calls
abbrev pub board : Market → Policy → ℕ → List Call → State
board m C first cs = run m C (made m C first) cs

-- the events of an answer
abbrev pub told : Answer → List Event
told (refused n) = []
told (accepted es t) = es

-- the events of the calls, one after another
abbrev pub run_events : Market → Policy → State → List Call → List Event
run_events m C s [] = []
run_events m C s (c ∷ cs) = told (call m C s c).1 ++ run_events m C (call m C s c).0 cs
