-- The laws of the board over every run of calls, and what it never passes.
use Rattle.std.specs.Prelude.{◌≡◌, ℕ, suc, ◌+◌, ◌-◌, ◌^◌, ◌≤◌, ◌⊎◌, ◌↔◌, List, [], ◌∷◌, length, Some, None, sum_by}
use Rattle.fleet.specs.Market.{Market, Sound, Placement}
use Rattle.fleet.specs.declared.Event.{Event}
use Rattle.policy.specs.Choice.{Policy, Alike}
use Rattle.matching.specs.Entries.{place}
use Rattle.matching.specs.Stable.{Given, Stable, Between, TenantBest}
use Rattle.rotation.specs.Laws.{Member}
use Rattle.runs.specs.States.{Rotation, Drain, State, Ticket, Call}
use Rattle.runs.specs.States.Call.{open_for, commit}
use Rattle.runs.specs.States.Answer.{refused, accepted}
use Rattle.runs.specs.Calls.{settled_list, call, made, board, run_events}
use Rattle.runs.specs.Onward.{moving_on}

-- the rotation r is committed and not taken back
abbrev pub Stands : Rotation → State → Type 0
Stands r b = Member r b.standing

-- two boards of one sheet, each after calls of its own, under policies that choose alike, have one placement exactly where the same rotations stand
abbrev pub SamePlacements : Type 0
SamePlacements =
    (m : Market) (C D : Policy) → Given m C → Given m D → Alike m C D → (first first' : ℕ) (cs ds : List Call) →
    ((board m C first cs).placement ≡ (board m D first' ds).placement) ↔
    ((r : Rotation) → Stands r (board m C first cs) ↔ Stands r (board m D first' ds))

-- the placement is stable
abbrev pub AlwaysStable : Type 0
AlwaysStable = (m : Market) (C : Policy) → Given m C → (first : ℕ) (cs : List Call) → Stable m C (place (board m C first cs).placement)

-- an accepted commit leads to a next one: nothing stable lies strictly between the placements before and after it
abbrev pub NextStable : Type 0
NextStable =
    (m : Market) (C : Policy) → Given m C → (first : ℕ) (cs : List Call) (ticket : Ticket) (es : List Event) (new : Ticket) →
    (call m C (board m C first cs) (commit ticket)).1 ≡ accepted es new →
    (y : Placement) → Stable m C y →
    Between m C (place (board m C first cs).placement) y (place (call m C (board m C first cs) (commit ticket)).0.placement) →
    (y ≡ place (board m C first cs).placement) ⊎ (y ≡ place (call m C (board m C first cs) (commit ticket)).0.placement)

-- with no drain, open finds no rotation for any worker exactly where every tenant likes the placement at least as well as every other stable one
abbrev pub NoRotationLeft : Type 0
NoRotationLeft =
    (m : Market) (C : Policy) → Given m C → (first : ℕ) (cs : List Call) → (board m C first cs).drain ≡ None →
    ((w : ℕ) → (call m C (board m C first cs) (open_for w)).1 ≡ refused 40) ↔ TenantBest m C (place (board m C first cs).placement)

-- what holds of every sound market, every lawful policy, every first number and every list of calls, refused ones among them
pub record BoardLaws : Type 0 where
  pub same_placements : SamePlacements
  pub stable : AlwaysStable
  pub next_stable : NextStable
  pub no_rotation_left : NoRotationLeft

-- the events are numbered one by one, from n on
abbrev pub NumberedFrom : ℕ → List Event → Type 0
NumberedFrom n [] = Unit {0}
NumberedFrom n (e ∷ es) = (e.number ≡ n) × NumberedFrom (suc n) es

-- what the board never passes
pub record BoardBounds : Type 0 where
  -- at most 480 rotations stand, with at most 960 moves, and a drain is one of them: a commit never lacks room
  pub few_standing : (m : Market) (C : Policy) → Sound m → (first : ℕ) (cs : List Call) → length (board m C first cs).standing ≤ 480
  pub few_moves : (m : Market) (C : Policy) → Sound m → (first : ℕ) (cs : List Call) → sum_by length (board m C first cs).standing ≤ 960
  pub commit_room :
      (m : Market) (C : Policy) → Sound m → (first : ℕ) (cs : List Call) (d : Drain) → (board m C first cs).drain ≡ Some d →
      (length (board m C first cs).standing + 1 ≤ 480) × (sum_by length (board m C first cs).standing + length d.rotation ≤ 960)
  -- its events fit a slip of 64
  pub slip_room :
      (m : Market) (C : Policy) → Sound m → (first : ℕ) (cs : List Call) (d : Drain) → (board m C first cs).drain ≡ Some d → length d.rotation ≤ 64
  -- and it never lacks numbers: the last that can be is 2^64 - 1
  pub commit_numbers :
      (m : Market) (C : Policy) (first : ℕ) (cs : List Call) → first ≤ 2 ^ 64 - 1 → (d : Drain) → (board m C first cs).drain ≡ Some d →
      (board m C first cs).next + length d.rotation ≤ 2 ^ 64 - 1
  pub next_fits : (m : Market) (C : Policy) (first : ℕ) (cs : List Call) → first ≤ 2 ^ 64 - 1 → (board m C first cs).next ≤ 2 ^ 64 - 1
  -- the events of a run are numbered one by one from the first number on, up to the next
  pub numbered : (m : Market) (C : Policy) (first : ℕ) (cs : List Call) → NumberedFrom first (run_events m C (made m C first) cs)
  pub next_number : (m : Market) (C : Policy) (first : ℕ) (cs : List Call) → (board m C first cs).next ≡ first + length (run_events m C (made m C first) cs)

-- a new board whose first number leaves 1,440 more moves on until no rotation is left: no call is refused on the way
abbrev pub NeverStopped : Type 0
NeverStopped = (m : Market) (C : Policy) → Sound m → (first : ℕ) → first + 1440 ≤ 2 ^ 64 - 1 → (moving_on m C (settled_list m C) (made m C first)).stopped ≡ 0
