-- What a Ranked policy holds.
use Rattle.std.specs.Prelude.{List}
use Rattle.fleet.specs.Rankings.{listed}
use Rattle.policy.specs.Kinds.{RankedRule}
use Rattle.policy.specs.Rosters.{rules}
use Rattle.policy.specs.declared.ranked.RankedTenant.{RankedTenant}
use Rattle.policy.specs.declared.roster.Roster.{Roster}

-- the cap and the list of a tenant
abbrev pub rank_rule : RankedTenant → RankedRule
rank_rule t = record { cap = t.cap; list = listed t.list }

-- the policy of such tenants, who have nothing in common
abbrev pub Ranked : Type 0
Ranked = Roster RankedTenant (Unit {0})

-- the tenants of the policy, by number
abbrev pub ranks : Ranked → List RankedRule
ranks = rules rank_rule
