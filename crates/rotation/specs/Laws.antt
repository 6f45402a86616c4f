-- What holds of rotations, and of what is found for a worker.
use Rattle.std.specs.Prelude.{◌≡◌, ℕ, suc, ◌≤◌, ◌⊎◌, ◌↔◌, List, [], ◌∷◌, Some, None, Option, ◌≢◌}
use Rattle.fleet.specs.Market.{Market, Placement}
use Rattle.fleet.specs.declared.Move.{Move}
use Rattle.policy.specs.Choice.{Policy}
use Rattle.matching.specs.Stable.{Stable, AllLike, Between, TenantBest}
use Rattle.matching.specs.Stepping.{step, successor}
use Rattle.rotation.specs.Rotation.{Follows, OnRotation}
use Rattle.rotation.specs.Moves.{Rotates, MovedBy, applied}

-- the list has a
abbrev pub Member : {A : Type 0} → A → List A → Type 0
Member a [] = ⊥
Member a (b ∷ bs) = (a ≡ b) ⊎ Member a bs

-- the worker numbers are at least n, and each is above the one before
abbrev pub Rising : ℕ → List Move → Type 0
Rising n [] = Unit {0}
Rising n (k ∷ ks) = (n ≤ k.worker) × Rising (suc k.worker) ks

-- k takes a worker that follows w from its tenant to its step
pub record MovesOn (m : Market) (C : Policy) (x : Placement) (w : ℕ) (k : Move) : Type 0 where
  pub follows : Follows m C x w k.worker
  pub leaves : x k.worker ≡ k.from
  pub steps : step m C x k.worker ≡ Some k.to

-- r is the rotation of w: its moves take, by rising number, all that follow w to their steps
pub record RotationOf (m : Market) (C : Policy) (x : Placement) (w : ℕ) (r : List Move) : Type 0 where
  pub on : OnRotation m C x w
  pub rising : Rising 0 r
  pub moves : (k : Move) → Member k r ↔ MovesOn m C x w k

-- what is found is the rotation of w, and nothing is found exactly where w is on none
pub record FindsRotation (m : Market) (C : Policy) (x : Placement) (w : ℕ) (found : Option (List Move)) : Type 0 where
  pub moves : (r : List Move) → found ≡ Some r → Rotates m C x r × RotationOf m C x w r
  pub missing : (found ≡ None) ↔ (OnRotation m C x w → ⊥)

-- rotations at a stable placement x
pub record RotationLaws (m : Market) (C : Policy) (x : Placement) : Type 0 where
  -- a rotation leads to a stable placement
  pub stable : (r : List Move) → Rotates m C x r → Stable m C (applied r x)
  -- that every tenant likes at least as well
  pub liked : (r : List Move) → Rotates m C x r → AllLike m C (applied r x) x
  -- and that has each of its workers elsewhere, and there is one
  pub differs : (r : List Move) → Rotates m C x r → (w : ℕ) × (applied r x w ≢ x w)
  -- nothing stable lies strictly between
  pub next : (r : List Move) → Rotates m C x r → (y : Placement) → Stable m C y → Between m C x y (applied r x) → (y ≡ x) ⊎ (y ≡ applied r x)
  -- two rotations with a common worker are one
  pub one_each : (r s : List Move) → Rotates m C x r → Rotates m C x s → (w : ℕ) → MovedBy r w → MovedBy s w → r ≡ s
  -- a rotation leaves the others as they are: they are rotations afterwards, and their workers have the same steps and successors
  pub others_stay : (r s : List Move) → Rotates m C x r → Rotates m C x s → ((w : ℕ) → MovedBy r w → MovedBy s w → ⊥) →
      Rotates m C (applied r x) s ×
      ((w : ℕ) → MovedBy s w → (step m C (applied r x) w ≡ step m C x w) × (successor m C (applied r x) w ≡ successor m C x w))
  -- a stable placement that every tenant likes at least as well and that differs needs a rotation, of which all workers differ
  pub needed : (y : Placement) → Stable m C y → AllLike m C y x → (w : ℕ) → (x w ≢ y w) →
      (r : List Move) × Rotates m C x r × ((v : ℕ) → MovedBy r v → x v ≢ y v)
  -- no worker is on a rotation exactly where the placement is best for all tenants
  pub tenant_best : TenantBest m C x ↔ ((w : ℕ) → OnRotation m C x w → ⊥)
