-- Rotations as lists of moves by rising worker number: the moves from one placement to another, the placement after them, and how the
-- rotation of a worker is found.
use Rattle.std.specs.Prelude.{◌≡◌, ℕ, zero, suc, Bool, true, false, cond, List, [], ◌∷◌, ◌++◌, is_some, Some, None, Option, ◌==◌, slice_set}
use Rattle.fleet.specs.Sets.{Set, among}
use Rattle.fleet.specs.Market.{Market, Placement}
use Rattle.fleet.specs.declared.Move.{Move}
use Rattle.policy.specs.Choice.{Policy}
use Rattle.matching.specs.Stepping.{successor}
use Rattle.rotation.specs.Rotation.{or_own, target, Cycle}

-- worker w goes from its tenant in x to its tenant in y
abbrev pub move_from : Placement → Placement → ℕ → Move
move_from x y w = record { worker = w; from = x w; to = y w }

-- a list of this one entry, or of none
abbrev pub only_if : {A : Type 0} → Bool → A → List A
only_if true a = a ∷ []
only_if false a = []

-- the moves from x to y of the members of S below n, by rising worker number; shut, so that no proof looks for 64 moves
unfoldable pub carried : Placement → Placement → Set → ℕ → List Move
carried x y S zero = []
carried x y S (suc n) = carried x y S n ++ only_if (S n) (move_from x y n)

-- the moves of the members of S, each from its tenant to its step
abbrev pub moves : Market → Policy → Placement → Set → List Move
moves m C x S = carried x (target m C x) S 64

-- r is a rotation at x: it has the moves of the workers of a cycle of successors
pub record Rotates (m : Market) (C : Policy) (x : Placement) (r : List Move) : Type 0 where
  pub group : Set
  pub cycle : Cycle m C x group
  pub listed : r ≡ moves m C x group

-- where the moves take w, if they move it
abbrev pub dest : List Move → ℕ → Option ℕ
dest [] w = None
dest (k ∷ ks) w = cond (w == k.worker) (Some k.to) (dest ks w)

-- the moves take w somewhere
abbrev pub MovedBy : List Move → ℕ → Type 0
MovedBy r w = (t : ℕ) × (dest r w ≡ Some t)

-- the placement after the moves: whom they do not move stays
abbrev pub applied : List Move → Placement → Placement
applied r x w = or_own (x w) (dest r w)

-- a list of tenants by worker after the moves
abbrev pub moved : List Move → List ℕ → List ℕ
moved [] l = l
moved (k ∷ ks) l = slice_set (moved ks l) k.worker k.to

-- the move back
abbrev pub turned : Move → Move
turned k = record { worker = k.worker; from = k.to; to = k.from }

-- the moves that take everyone back
abbrev pub reversed : List Move → List Move
reversed [] = []
reversed (k ∷ ks) = record { worker = k.worker; from = k.to; to = k.from } ∷ reversed ks

-- the walk with v in front, if there is a walk
abbrev pub walk_from : ℕ → Option (List ℕ) → Option (List ℕ)
walk_from v None = None
walk_from v (Some us) = Some (v ∷ us)

-- the walk ends with v where the next worker u is the one looked for; else `rest` walks on from u
abbrev pub walk_turn : ℕ → ℕ → (ℕ → Option (List ℕ)) → Bool → Option (List ℕ)
walk_turn v u rest true = Some (v ∷ [])
walk_turn v u rest false = walk_from v (rest u)

-- there is no walk where v has no successor
abbrev pub walk_next : ℕ → ℕ → (ℕ → Option (List ℕ)) → Option ℕ → Option (List ℕ)
walk_next w v rest None = None
walk_next w v rest (Some u) = walk_turn v u rest (u == w)

-- v and at most n - 1 successors of it, until the next would be w; none if w does not come; shut, so that no proof walks 64 times
unfoldable pub walk : Market → Policy → Placement → ℕ → ℕ → ℕ → Option (List ℕ)
walk m C x w zero v = None
walk m C x w (suc n) v = walk_next w v (λ u. walk m C x w n u) (successor m C x v)

-- the moves of the workers of a walk
abbrev pub moves_of_walk : Market → Policy → Placement → Option (List ℕ) → Option (List Move)
moves_of_walk m C x None = None
moves_of_walk m C x (Some us) = Some (moves m C x (among us))

-- the rotation of worker w at the placement x, if it is on one
abbrev pub rotation_at : Market → Policy → Placement → ℕ → Option (List Move)
rotation_at m C x w = moves_of_walk m C x (walk m C x w 64 w)

-- the workers that are on a rotation at x
abbrev pub on_rotation : Market → Policy → Placement → Set
on_rotation m C x w = is_some (rotation_at m C x w)
