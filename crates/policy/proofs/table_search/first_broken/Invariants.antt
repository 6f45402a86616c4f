-- No part of this set so far, and no set before it, breaks the law.
use Rattle.std.proofs.Common.{◌≡◌, ◌-◌, length, None}
use Rattle.policy.specs.Search.{seek, seek_pair}
use Rattle.policy.specs.Faults.{breaks}
use Rattle.policy.proofs.table_search.first_broken.Given as goal

abbrev pub invariant-loop-part : goal.invariant-loop-part
invariant-loop-part l =
    let n = length l.entries in
    (l.found ≡ None) × (seek n 0 (breaks l.law l.entries l.whole) ≡ seek (n - l.part) l.part (breaks l.law l.entries l.whole))

abbrev pub invariant-sets : goal.invariant-sets
invariant-sets l =
    let n = length l.entries in
    (l.found ≡ None) × (seek_pair n 0 n (breaks l.law l.entries) ≡ seek_pair (n - l.whole) l.whole n (breaks l.law l.entries))
