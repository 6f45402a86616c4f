-- The plan is that of the market and the policy that the sheet says.
use Rattle.std.proofs.Common.{◌≡◌, ℕ, List, ap, ◌∙◌, subst}
use Rattle.fleet.specs.Market.{Market}
use Rattle.fleet.specs.Lists.{market}
use Rattle.fleet.specs.Members.{members}
use Rattle.fleet.specs.declared.Event.{Event}
use Rattle.fleet.specs.declared.lists.Lists.{Lists}
use Rattle.matching.specs.declared.placement.Placement.{Placement}
use Rattle.matching.specs.Entries.{place}
use Rattle.matching.specs.Settling.{settled_rounds}
use Rattle.matching.specs.Stable.{TenantBest}
use Rattle.policy.specs.Choice.{Policy}
use Rattle.policy.specs.declared.combined.Pair.{Pair}
use Rattle.policy.specs.declared.combined.Quarantine.{Quarantine}
use Rattle.policy.specs.Ranks.{Ranked}
use Rattle.policy.specs.Seats.{Seated}
use Rattle.policy.specs.Entries.{Table}
use Rattle.runs.specs.Calls.{settled_list}
use Rattle.sheet.specs.Says.{text, market_said, policy_of}
use Rattle.board.specs.Shown.{state}
use Rattle.plans.specs.Plans.{PlanText, day_of, plan_for}
use Rattle.plans.proofs.Day.{day_is}
use Rattle.plans.proofs.Plan.of.Goals as goal

same_plan : (m : Market) (C : Policy) (workers rounds : ℕ) (settled : List ℕ) (events : List Event) (next : ℕ) → workers ≡ m.workers → rounds ≡ settled_rounds m C →
    settled ≡ settled_list m C → events ≡ (day_of m C).events → next ≡ (day_of m C).reached.next →
    (let plan : PlanText = record { workers = workers; rounds = rounds; settled = settled; events = events; next = next } in plan) ≡ plan_for m C
same_plan m C workers rounds settled events next a b c d e = λ i. record { workers = a i; rounds = b i; settled = c i; events = d i; next = e i }

-- what the policy of a sheet chooses
abbrev chooses : Quarantine (Pair Ranked (Pair Seated Table)) → Policy
chooses p = policy_of (members p.held) p.below.first p.below.second.first p.below.second.second

ends_best : (m : Market) (C : Policy) → Type 0
ends_best m C = TenantBest m C (place (day_of m C).reached.placement)

pub returns : goal.returns
unfolding ends_best
returns c =
    let s = text c.args.sheet.now in
    let p = c.policy-policy.result in
    let l : Lists = c.lists-lists.result in
    let m = market l in
    let C : Policy = chooses p in
    let e = c.make-rounds.ensures in
    let b = c.make-rounds.result.0 in
    let lists : market b.table.lists ≡ m = ap market e.lists in
    let home : b.table.settled.places ≡ settled_list m C = e.after.settled ∙ ap (λ (n : Market). settled_list n C) lists in
    let day = day_is m (market b.table.lists) C _ b.table.settled.places lists (ap chooses e.policy) home c.workers-workers.ensures.sound c.new_boards_move_on.ensures
    (state b.table) (state c.move_on-events.new.self.table) e.state e.stable _ _ _ _ c.move_on-events.ensures.course in
    record {
      plan =
          same_plan m C c.workers-workers.result c.make-rounds.result.1 c.settled.result.places _ c.next_number.result c.workers-workers.ensures.value e.rounds
          (ap (λ (q : Placement). q.places) c.settled.ensures ∙ home) day.events_are (c.next_number.ensures ∙ day.next_is) ∙
          ap (λ (n : Market). plan_for n C) c.lists-lists.ensures ∙ ap (λ (D : Policy). plan_for (market_said s) D) c.policy-policy.ensures;
      best = subst (λ (D : Policy). ends_best (market_said s) D) c.policy-policy.ensures (subst (λ (n : Market). ends_best n C) c.lists-lists.ensures day.best);
    }
