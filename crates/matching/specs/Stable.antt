-- Stable placements, and how workers and tenants compare placements.
use Rattle.std.specs.Prelude.{◌≡◌, ℕ, ◌<◌, ◌≤◌, Bool, false, cond, ◌⊎◌, nat_le}
use Rattle.fleet.specs.Sets.{union, insert}
use Rattle.fleet.specs.Market.{Market, Sound, Placement, rank, On, staff, depth}
use Rattle.policy.specs.Choice.{Policy, AllLawful}

-- what is taken for granted: the market is sound, and each tenant's choice lawful
pub record Given (m : Market) (C : Policy) : Type 0 where
  pub sound : Sound m
  pub lawful : AllLawful C

-- t's workers are acceptable: it chooses all of them out of themselves
abbrev pub Acceptable : Policy → Placement → ℕ → Type 0
Acceptable C x t = C t (staff x t) ≡ staff x t

-- worker w likes tenant t better than its place in x
abbrev pub Prefers : Market → Placement → ℕ → ℕ → Type 0
Prefers m x w t = rank (m.list w) t < depth m x w

-- tenant t would choose worker w out of its own workers and w
abbrev pub wants : Policy → Placement → ℕ → ℕ → Bool
wants C x w t = C t (insert (staff x t) w) w

-- each worker's tenant is on its list, each tenant's workers are acceptable, and no pair blocks: no listed tenant that a worker prefers wants it
pub record Stable (m : Market) (C : Policy) (x : Placement) : Type 0 where
  pub listed : (w : ℕ) → (x w ≡ 255) ⊎ On (m.list w) (x w)
  pub acceptable : (t : ℕ) → t < m.tenants → Acceptable C x t
  pub unblocked : (w t : ℕ) → On (m.list w) t → Prefers m x w t → wants C x w t ≡ false

-- tenant t likes x at least as well as y: it chooses its workers in x out of those of both
abbrev pub Likes : Policy → Placement → Placement → ℕ → Type 0
Likes C x y t = C t (union (staff x t) (staff y t)) ≡ staff x t

-- every tenant likes x at least as well as y
abbrev pub AllLike : Market → Policy → Placement → Placement → Type 0
AllLike m C x y = (t : ℕ) → t < m.tenants → Likes C x y t

-- y lies between x and z: every tenant likes y at least as well as x, and z at least as well as y
abbrev pub Between : Market → Policy → Placement → Placement → Placement → Type 0
Between m C x y z = AllLike m C y x × AllLike m C z y

-- every worker likes x at least as well as y
abbrev pub Serves : Market → Placement → Placement → Type 0
Serves m x y = (w : ℕ) → depth m x w ≤ depth m y w

-- no worker does better in another stable placement than in x
abbrev pub WorkerBest : Market → Policy → Placement → Type 0
WorkerBest m C x = (y : Placement) → Stable m C y → Serves m x y

-- every tenant likes x at least as well as any stable placement
abbrev pub TenantBest : Market → Policy → Placement → Type 0
TenantBest m C x = (y : Placement) → Stable m C y → AllLike m C x y

-- each worker at the worse of its two places
abbrev pub join : Market → Placement → Placement → Placement
join m x y w = cond (nat_le (depth m x w) (depth m y w)) (y w) (x w)
