-- Of those that the iterator has given a pair more is closed, and everybody stands at its first open pair.
use Rattle.std.proofs.Common.{◌≡◌, ℕ, ◌+◌, cond, length, get_or}
use Rattle.fleet.specs.Lists.{market}
use Rattle.fleet.specs.Sets.{minus, Within}
use Rattle.fleet.specs.Members.{coming}
use Rattle.matching.specs.Entries.{place}
use Rattle.matching.specs.Settling.{stands}
use Rattle.matching.proofs.farm.Farm.close.Given as goal

abbrev pub invariant-loop-w : goal.invariant-loop-w
invariant-loop-w g l =
    (goal.iterator-loop-w g).can_next l.w-iterator × (goal.iterator-loop-w g).is_finite l.w-iterator ×
    (let all = coming l.initial.w-iterator in
    let rest = coming l.w-iterator in
    (length l.closed ≡ 64) ×
    ((v : ℕ) → get_or l.closed v 0 ≡ get_or l.initial.closed v 0 + cond (minus all rest v) 1 0) ×
    (place l.staffing.placement.places ≡ stands (market l.self.lists.now) l.closed) ×
    Within rest all)
