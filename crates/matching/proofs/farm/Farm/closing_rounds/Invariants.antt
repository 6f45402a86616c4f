-- What the rounds have reached; each closes a pair, so at most as many are left as there are pairs.
use Rattle.std.proofs.Common.{◌≡◌, ◌+◌, ◌-◌, length}
use Rattle.fleet.specs.Lists.{market}
use Rattle.matching.specs.Entries.{place}
use Rattle.matching.specs.Settling.{pairs, stands, Content}
use Rattle.matching.proofs.Reached.{Reached}
use Rattle.matching.proofs.farm.Farm.closing_rounds.Given as goal

abbrev pub invariant-rounds : goal.invariant-rounds
invariant-rounds g l =
    let m = market l.self.lists.now in
    let C = g.P.Policy.chosen l.self.policy.now in
    Reached m C l.closing l.closed × (place l.staffing.placement.places ≡ stands m l.closed) × Content C l.accepted ×
    (length l.closed ≡ 64) × (length l.accepted ≡ 16)

abbrev pub decreases-rounds : goal.decreases-rounds
decreases-rounds g l = pairs (market l.self.lists.now) + 1 - l.closing
