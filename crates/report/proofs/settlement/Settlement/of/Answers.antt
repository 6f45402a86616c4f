-- What settles is the market and the policy that the sheet says.
use Rattle.std.proofs.Common.{◌≡◌, ℕ, List}
use Rattle.fleet.specs.Market.{Market}
use Rattle.fleet.specs.Lists.{market}
use Rattle.fleet.specs.Members.{members}
use Rattle.policy.specs.Choice.{Policy}
use Rattle.sheet.specs.Says.{text, market_said, policy_of, policy_said}
use Rattle.matching.specs.Entries.{tabulate}
use Rattle.matching.specs.Settling.{settled_placement, settled_rounds}
use Rattle.report.specs.declared.settlement.Settlement.{Settlement}
use Rattle.report.proofs.settlement.Settlement.of.Goals as goal

-- how a market and a policy settle
abbrev settlement_for : Market → Policy → Settlement
settlement_for m C = record { workers = m.workers; rounds = settled_rounds m C; places = tabulate 64 (settled_placement m C) }

same_settled : (workers rounds : ℕ) (places : List ℕ) (m n : Market) (C D : Policy) → m ≡ n → C ≡ D → workers ≡ m.workers → rounds ≡ settled_rounds m C →
    places ≡ tabulate 64 (settled_placement m C) → (let s : Settlement = record { workers = workers; rounds = rounds; places = places } in s) ≡ settlement_for n D
same_settled workers rounds places m n C D e f w r p = rw (w, r, p, e, f)

pub returns : goal.returns
returns c =
    let s = text c.args.sheet.now in
    let p = c.policy-policy.result in
    same_settled c.workers.result c.settle-found.result.rounds c.settle-found.result.placement.places (market c.lists-lists.result) (market_said s)
    (policy_of (members p.held) p.below.first p.below.second.first p.below.second.second) (policy_said s)
    c.lists-lists.ensures c.policy-policy.ensures c.workers.ensures.value c.settle-found.ensures.rounds c.settle-found.ensures.placed
