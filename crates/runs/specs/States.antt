-- What a board holds, what can be asked of it, and what it answers.
use Rattle.std.specs.Prelude.{ℕ, List, Option}
use Rattle.fleet.specs.declared.Move.{Move}
use Rattle.fleet.specs.declared.Event.{Event}

-- a rotation: its moves, by rising worker number
abbrev pub Rotation : Type 0
Rotation = List Move

-- a rotation that is opened and not yet committed, under its event number
pub record Drain : Type 0 where
  pub number : ℕ
  pub rotation : Rotation

-- what a board holds besides the lists, the policy and the settled placement: 64 tenants by worker, the standing rotations, the oldest
-- first, the drain and the next event number
pub record State : Type 0 where
  pub placement : List ℕ
  pub standing : List Rotation
  pub drain : Option Drain
  pub next : ℕ

-- what an open hands out, with the drain's number; blank where it is refused
pub data Ticket : Type 0 where
  blank : Ticket
  numbered : ℕ → Ticket

-- the calls; an open names a worker
pub data Call : Type 0 where
  open_for : ℕ → Call
  commit : Ticket → Call
  withdraw : Ticket → Call
  back : Call
  rewind : Call

-- a call without what it needs of the policy: an open has the rotation that its worker is on, if it is on one
pub data Request : Type 0 where
  to_open : ℕ → Option Rotation → Request
  to_commit : Ticket → Request
  to_withdraw : Ticket → Request
  to_back : Request
  to_rewind : Request

-- a refusal by its number, or the events, with the ticket where the call is an open
pub data Answer : Type 0 where
  refused : ℕ → Answer
  accepted : List Event → Ticket → Answer
