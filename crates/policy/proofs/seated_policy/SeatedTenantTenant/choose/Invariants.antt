-- So far the walk has taken the chosen, and counted them, all and by class.
use Rattle.fleet.specs.Members.{members}
use Rattle.policy.proofs.Seating.{Seating}
use Rattle.policy.proofs.seated_policy.SeatedTenantTenant.choose.Given as goal

abbrev pub invariant-loop-worker : goal.invariant-loop-worker
invariant-loop-worker l = Seating l.common.classes l.self.overall l.self.caps (members l.of) l.worker-items l.worker-index (members l.chosen) l.taken l.by_class
