-- The workers that the entry names up to this place.
use Rattle.std.proofs.Common.{◌≡◌}
use Rattle.fleet.specs.Members.{members}
use Rattle.policy.proofs.Naming.{named_upto}
use Rattle.policy.proofs.table_policy.named.Given as goal

abbrev pub invariant-loop-place : goal.invariant-loop-place
invariant-loop-place l = members l.chosen ≡ named_upto l.workers l.bits l.place
