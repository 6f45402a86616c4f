-- The index of the workers before this place.
use Rattle.std.proofs.Common.{◌≡◌, take}
use Rattle.fleet.specs.Members.{members}
use Rattle.policy.specs.Tables.{index_of}
use Rattle.policy.proofs.table_policy.index_of.Given as goal

abbrev pub invariant-loop-place : goal.invariant-loop-place
invariant-loop-place l = l.index ≡ index_of (take l.place l.workers) (members l.of)
