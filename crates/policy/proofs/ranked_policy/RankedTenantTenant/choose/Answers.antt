-- Those that pass the chain are chosen.
use Rattle.std.proofs.Common.{ℕ, List, take, filter, ap, ◌∙◌, rules, tests}
use Rattle.std.proofs.lemmas.Iterator.{YieldsList-from_slice, YieldsList-from_take}
use Rattle.std.proofs.lemmas.Iterator.Consumers.{YieldsList-at, YieldsList-from_filter}
use Rattle.fleet.specs.Sets.{among}
use Rattle.fleet.specs.Members.{members}
use Rattle.fleet.proofs.Same.{members_workers}
use Rattle.policy.proofs.Gathering.{taken_of, gathered}
use Rattle.policy.proofs.ranked_policy.RankedTenantTenant.choose.Goals as goal

pub returns : goal.returns
returns c =
    let l = c.as_slice.result.now in
    let n = c.args.self.now.cap in
    let Z = members c.args.of in
    gathered _ c.empty.result c.fold.result c.fold.ensures.ran
    (YieldsList-from_take n
    (YieldsList-at c.take.ensures.source (YieldsList-from_filter _ Z (YieldsList-from_slice l cc) c.filter.ensures.closure (λ x b q k. search (rules, tests))))
    (c.take.ensures.count ∙ c.room.ensures))
    c.empty.ensures (λ a x b q k. search (rules, tests)) (λ w h. members_workers c.args.of w (taken_of Z n l w h))
    ∙ ap (λ (k : List ℕ). among (take n (filter Z k))) c.as_slice.ensures
