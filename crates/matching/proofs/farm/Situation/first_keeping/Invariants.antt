-- None of the tenants before this place wants the worker.
use Rattle.std.proofs.Common.{◌≡◌, drop}
use Rattle.std.specs.List.{find}
use Rattle.matching.specs.Farms.{placed, choices}
use Rattle.matching.specs.Stable.{wants}
use Rattle.matching.proofs.farm.Situation.first_keeping.Given as goal

abbrev pub invariant-loop-tenant : goal.invariant-loop-tenant
invariant-loop-tenant g l =
    let p = wants (choices g.P.Policy.chosen l.self) (placed l.self) l.worker in
    find p l.tenants ≡ find p (drop l.tenant-index l.tenants)
