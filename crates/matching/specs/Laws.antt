-- What holds of the stable placements of a market under a policy.
use Rattle.std.specs.Prelude.{◌≡◌, ℕ, true, ◌↔◌, Some}
use Rattle.fleet.specs.Market.{Market, Placement}
use Rattle.policy.specs.Choice.{Policy}
use Rattle.matching.specs.Stable.{Stable, AllLike, Serves, join}
use Rattle.matching.specs.Stepping.{step, put_out}

-- x and y are stable, and have a join
pub record Joined (m : Market) (C : Policy) (x y : Placement) : Type 0 where
  -- each worker at the worse of its places is stable
  pub stable : Stable m C (join m x y)
  -- every tenant likes that at least as well as both
  pub first : AllLike m C (join m x y) x
  pub second : AllLike m C (join m x y) y
  -- and no better than what is liked as well as both
  pub least : (z : Placement) → Stable m C z → AllLike m C z x → AllLike m C z y → AllLike m C z (join m x y)

-- any two stable placements
pub record LatticeLaws (m : Market) (C : Policy) : Type 0 where
  -- the tenants' order and the workers' order are opposite
  pub polarity : (x y : Placement) → Stable m C x → Stable m C y → AllLike m C y x ↔ Serves m x y
  -- there is a stable placement that every tenant likes at least as well as both
  pub joined : (x y : Placement) → Stable m C x → Stable m C y → Joined m C x y

-- at a stable placement the tenant that w steps to lets at most one worker go for it
abbrev pub OnePutOut : Market → Policy → Placement → ℕ → Type 0
OnePutOut m C x w =
    Stable m C x → (t u v : ℕ) → step m C x w ≡ Some t → put_out C x t w u ≡ true → put_out C x t w v ≡ true → u ≡ v
