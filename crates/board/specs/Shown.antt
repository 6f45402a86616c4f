-- The state that a board's table shows, and what a call in plain numbers asks of it.
use Rattle.std.specs.Prelude.{◌≡◌, ℕ, ◌+◌, ◌-◌, ◌<◌, ◌≤◌, true, List, [], ◌∷◌, ◌++◌, length, take, Some, None, Option, option_map, slice_index}
use Rattle.std.specs.Option.{IfSome}
use Rattle.fleet.specs.Lists.{market}
use Rattle.fleet.specs.declared.Move.{Move}
use Rattle.policy.specs.Choice.{Policy}
use Rattle.matching.specs.Entries.{place}
use Rattle.rotation.specs.Listing.{listing}
use Rattle.rotation.specs.declared.move_list.MoveList.{MoveList}
use Rattle.runs.specs.States as States
use Rattle.runs.specs.States.{Rotation, State, Ticket, Request, Answer}
use Rattle.runs.specs.States.Ticket.{blank, numbered}
use Rattle.runs.specs.States.Request.{to_open, to_commit, to_withdraw, to_back, to_rewind}
use Rattle.runs.specs.Calls.{respond, answer, settled_list, board}
use Rattle.runs.specs.Descent.{descends}
use Rattle.board.specs.declared.drain.Drained.{Drained}
use Rattle.board.specs.declared.call.Call.{Call}
use Rattle.board.specs.declared.call.Call.TheVariants.{Open, Commit, Withdraw, Back, Rewind}
use Rattle.board.specs.declared.table.Table.{Table}
use Rattle.board.specs.Pieces.{piece, cut}

-- the drain, whose moves lie from `at` on
abbrev pub drain_in : Option Drained → ℕ → List Move → Option States.Drain
drain_in None at ms = None
drain_in (Some d) at ms = Some (record { number = d.number; rotation = piece at d.size ms })

-- the standing rotations
abbrev pub standing_in : Table → List Rotation
standing_in t = cut (take t.count t.sizes) t.moves

-- the size of the last standing rotation
abbrev pub last_size : Table → ℕ
last_size t = slice_index t.sizes (t.count - 1)

-- its moves, at the end of the standing ones
abbrev pub last_piece : Table → Rotation
last_piece t = piece (t.len - last_size t) (last_size t) t.moves

-- the state of the board
abbrev pub state : Table → State
state t = record {
  placement = t.current.places;
  standing = standing_in t;
  drain = drain_in t.drain t.len t.moves;
  next = t.next;
}

-- a board that holds a settled placement and nothing else
abbrev pub fresh : List ℕ → ℕ → State
fresh settled first = record { placement = settled; standing = []; drain = None; next = first }

-- a ticket by the number of its drain, blank where there is none
abbrev pub ticket_in : Option ℕ → Ticket
ticket_in None = blank
ticket_in (Some n) = numbered n

-- the rotation of so many moves from `at` on, if there is one
abbrev pub offered : Option ℕ → ℕ → List Move → Option Rotation
offered size at ms = option_map (λ n. piece at n ms) size

-- what a call in plain numbers asks: an open is for the rotation that lies behind the standing ones
abbrev pub request_in : Table → Call → Request
request_in t (Open w size) = to_open w (offered size t.len t.moves)
request_in t (Commit k) = to_commit (ticket_in k)
request_in t (Withdraw k) = to_withdraw (ticket_in k)
request_in t Back = to_back
request_in t Rewind = to_rewind

-- the drain as code shows it
abbrev pub drain_shown : Option (ℕ × MoveList) → Option States.Drain
drain_shown None = None
drain_shown (Some (n, l)) = Some (record { number = n; rotation = listing l })

-- what is done and answered
abbrev pub answered : Table → Call → State × Answer
answered t c = respond t.settled.places (state t) (drain_in t.drain t.len t.moves) (request_in t c)

-- a call at a table, for tenants that choose by C
abbrev pub called : Policy → Table → States.Call → State × Answer
called C t c = answer (market t.lists) C t.settled.places (state t) c

-- so many moves behind the standing ones can be drained: they are there, 2 to 64 of them, and go down from the present placement
pub record Drainable (t : Table) (size : ℕ) : Type 0 where
  pub shut : t.drain ≡ None
  pub room : t.len + size ≤ 960
  pub long : length (piece t.len size t.moves) ≡ size
  pub some : 1 < size
  pub few : size ≤ 64
  pub down : descends (market t.lists) (place t.current.places) 0 (piece t.len size t.moves) ≡ true

-- an open is for a rotation that can be drained, or for none
abbrev pub Offers : Table → Call → Type 0
Offers t (Open w size) = IfSome size (Drainable t)
Offers t (Commit k) = Unit {0}
Offers t (Withdraw k) = Unit {0}
Offers t Back = Unit {0}
Offers t Rewind = Unit {0}

-- the lists and the settled placement are the same
pub record Keeps (t u : Table) : Type 0 where
  pub lists : u.lists ≡ t.lists
  pub settled : u.settled ≡ t.settled

-- the table t has become u, which shows the state s
pub record Becomes (t u : Table) (s : State) : Type 0 where
  pub shows : state u ≡ s
  pub keeps : Keeps t u

-- the table is that of a board of its lists, for tenants that choose by C, made with this first number and after these calls
pub record After (C : Policy) (first : ℕ) (cs : List States.Call) (t : Table) : Type 0 where
  pub settled : t.settled.places ≡ settled_list (market t.lists) C
  pub reached : state t ≡ board (market t.lists) C first cs

-- the table u comes from t by one call more
pub record GoesOn (C : Policy) (c : States.Call) (t u : Table) : Type 0 where
  pub more : (first : ℕ) (cs : List States.Call) → After C first cs t → After C first (cs ++ (c ∷ [])) u
