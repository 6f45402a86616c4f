-- Where the plan of a sheet ends.
use Rattle.std.specs.Prelude.{◌≡◌, ℕ, ◌≤◌, List, length, Ok}
use Rattle.matching.specs.Entries.{place}
use Rattle.matching.specs.Stable.{TenantBest}
use Rattle.sheet.specs.Sheets.{SheetText}
use Rattle.sheet.specs.Reading.{decode}
use Rattle.sheet.specs.Says.{market_said, policy_said}
use Rattle.plans.specs.Plans.{day_of}

-- the placement at the end is best for all tenants
abbrev pub EndsBest : SheetText → Type 0
EndsBest s = TenantBest (market_said s) (policy_said s) (place (day_of (market_said s) (policy_said s)).reached.placement)

-- that of the sheet that the bytes say, where they say one
abbrev pub BestAtLast : List ℕ → Type 0
BestAtLast bytes = (s : SheetText) → length bytes ≤ 65536 → decode bytes ≡ Ok s → EndsBest s
