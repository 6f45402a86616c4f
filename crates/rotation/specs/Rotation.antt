-- Rotations at a placement, and the placement after a rotation.
use Rattle.std.specs.Prelude.{◌≡◌, ℕ, zero, suc, ◌<◌, true, cond, ◌↔◌, Some, None, Option}
use Rattle.fleet.specs.Sets.{Set}
use Rattle.fleet.specs.Market.{Market, Placement}
use Rattle.policy.specs.Choice.{Policy}
use Rattle.matching.specs.Stepping.{step, successor}

-- the worker that is n successors on from w
abbrev pub later : Market → Policy → Placement → ℕ → ℕ → Option ℕ
later m C x zero w = Some w
later m C x (suc n) w = elim (later m C x n w) [ Some v ↦ successor m C x v | None ↦ None ]

-- v is w, or comes after it along the successors
abbrev pub Follows : Market → Policy → Placement → ℕ → ℕ → Type 0
Follows m C x w v = (n : ℕ) × (later m C x n w ≡ Some v)

-- w is on a rotation: the successors lead back to it
pub record OnRotation (m : Market) (C : Policy) (x : Placement) (w : ℕ) : Type 0 where
  pub period : ℕ
  pub some_steps : 0 < period
  pub again : later m C x period w ≡ Some w

-- S is the set of workers of one rotation
pub record Cycle (m : Market) (C : Policy) (x : Placement) (S : Set) : Type 0 where
  pub leader : ℕ
  pub comes_again : OnRotation m C x leader
  pub members : (v : ℕ) → (S v ≡ true) ↔ Follows m C x leader v

-- the number that is there, or else t
abbrev pub or_own : ℕ → Option ℕ → ℕ
or_own t None = t
or_own t (Some g) = g

-- the tenant that w steps to, its own where there is no step; shut, so that proofs go by `target_is`
unfoldable pub target : Market → Policy → Placement → ℕ → ℕ
target m C x w = or_own (x w) (step m C x w)

-- the placement after the workers of S have stepped
abbrev pub after : Market → Policy → Placement → Set → Placement
after m C x S w = cond (S w) (target m C x w) (x w)
