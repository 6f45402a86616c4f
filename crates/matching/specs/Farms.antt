-- What holds on a farm, and of its workers where they are placed.
use Rattle.fleet.specs.Market.{Market, Placement}
use Rattle.fleet.specs.Lists.{market}
use Rattle.policy.specs.Choice.{Policy}
use Rattle.matching.specs.declared.farm.Farm.{Farm}
use Rattle.matching.specs.declared.farm.Situation.{Situation}
use Rattle.matching.specs.Entries.{place}

-- what a notion of markets and policies comes to with a farm's lists and what its policy chooses
abbrev pub on_farm {ℓ} : {P : Type 0} {A : Type ℓ} → (P → Policy) → Farm P → (Market → Policy → A) → A
on_farm chosen farm notion = notion (market farm.lists.now) (chosen farm.policy.now)

-- where the workers are placed
abbrev pub placed : {P : Type 0} → Situation P → Placement
placed here = place here.staffing.now.placement.places

-- the market of a situation
abbrev pub market_in : {P : Type 0} → Situation P → Market
market_in here = market here.farm.now.lists.now

-- what the tenants choose in a situation
abbrev pub choices : {P : Type 0} → (P → Policy) → Situation P → Policy
choices chosen here = chosen here.farm.now.policy.now

-- what a notion of markets, policies and placements comes to where a farm's workers are placed
abbrev pub in_situation {ℓ} : {P : Type 0} {A : Type ℓ} → (P → Policy) → Situation P → (Market → Policy → Placement → A) → A
in_situation chosen here notion = on_farm chosen here.farm.now notion (placed here)
