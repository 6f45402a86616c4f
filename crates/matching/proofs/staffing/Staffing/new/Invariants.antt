-- The sets have the workers that the loop has passed.
use Rattle.std.proofs.Common.{◌≡◌, ℕ, ◌<◌, length, get_or}
use Rattle.fleet.specs.Members.{members}
use Rattle.matching.specs.Entries.{place}
use Rattle.matching.specs.Staffs.{no_workers, staff_below}
use Rattle.matching.proofs.staffing.Staffing.new.Given as goal

abbrev pub invariant-loop-worker : goal.invariant-loop-worker
invariant-loop-worker l =
    (length l.staffs ≡ 16) × ((t v : ℕ) → t < 16 → members (get_or l.staffs t no_workers) v ≡ staff_below l.worker (place l.tenant-items) t v)
