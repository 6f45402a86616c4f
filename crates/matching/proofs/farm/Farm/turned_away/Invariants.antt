-- Those that the tenants below do not choose are away, and each tenant would choose again whom it kept.
use Rattle.std.proofs.Common.{◌≡◌, length}
use Rattle.fleet.specs.Members.{members}
use Rattle.matching.specs.Entries.{place}
use Rattle.matching.specs.Settling.{away, Content}
use Rattle.matching.proofs.farm.Farm.turned_away.Given as goal

abbrev pub invariant-loop-tenant : goal.invariant-loop-tenant
invariant-loop-tenant g l =
    let C = g.P.Policy.chosen l.self.policy.now in
    (members l.away ≡ away C (place l.staffing.placement.places) l.tenant) × Content C l.accepted × (length l.accepted ≡ 16)
