-- What a tenant chooses out of a set of workers, and the four laws that its choice keeps.
use Rattle.std.specs.Prelude.{◌≡◌, ℕ, ◌<◌, ◌≤◌, true}
use Rattle.fleet.specs.Sets.{Set, Within, Workers, nobody, size}
use Rattle.fleet.specs.Market.{Market}

-- a tenant's choice: the chosen set, for each set of workers that is offered
abbrev pub Choice : Type 0
Choice = Set → Set

-- nobody is chosen who was not offered
abbrev pub Inside : Choice → Type 0
Inside C = (Z : Set) → Workers Z → Within (C Z) Z

-- who is chosen out of many is chosen out of fewer
abbrev pub Substitutable : Choice → Type 0
Substitutable C = (Z Y : Set) → Workers Z → Within Y Z → (w : ℕ) → C Z w ≡ true → Y w ≡ true → C Y w ≡ true

-- no fewer are chosen out of more
abbrev pub Monotone : Choice → Type 0
Monotone C = (Z Y : Set) → Workers Z → Within Y Z → size (C Y) ≤ size (C Z)

-- leaving out those who are not chosen changes nothing
abbrev pub Consistent : Choice → Type 0
Consistent C = (Z Y : Set) → Workers Z → Within Y Z → Within (C Z) Y → C Y ≡ C Z

-- the four laws of one tenant's choice
pub record Lawful (C : Choice) : Type 0 where
  pub inside : Inside C
  pub substitutable : Substitutable C
  pub monotone : Monotone C
  pub consistent : Consistent C

-- the choice of each tenant, by its number
abbrev pub Policy : Type 0
Policy = ℕ → Choice

-- each tenant's choice is lawful
abbrev pub AllLawful : Policy → Type 0
AllLawful C = (t : ℕ) → Lawful (C t)

-- what every policy keeps: it has at most 16 tenants, all choices are lawful, and at or past the count nobody is chosen
pub record KeepsLaws (count : ℕ) (C : Policy) : Type 0 where
  pub few : count ≤ 16
  pub laws : AllLawful C
  pub past : (t : ℕ) → count ≤ t → (Z : Set) → C t Z ≡ nobody

-- each tenant of the market chooses the same under both, out of each set of the market's workers
abbrev pub Alike : Market → Policy → Policy → Type 0
Alike m C D = (t : ℕ) → t < m.tenants → (Z : Set) → ((w : ℕ) → Z w ≡ true → w < m.workers) → C t Z ≡ D t Z
