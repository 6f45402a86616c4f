-- Round by round, from Reached.
use Rattle.std.proofs.Common.{◌≡◌, ◌+◌, cond, get_or, is_some, sym, refl, ap, ◌∙◌, subst, add-one, arith}
use Rattle.fleet.specs.Sets.{Set, lowest}
use Rattle.fleet.specs.Lists.{market}
use Rattle.fleet.specs.Market.{Placement}
use Rattle.fleet.specs.Members.{members}
use Rattle.fleet.proofs.Sizes.{same_at}
use Rattle.matching.specs.declared.placement.Placement.{Placement as Placed}
use Rattle.matching.specs.Entries.{place, tabulate}
use Rattle.matching.specs.Settling.{stands, rejected, next_round, Outcome}
use Rattle.matching.proofs.Tabulate.{table_of_place}
use Rattle.matching.proofs.Standing.{content_none}
use Rattle.matching.proofs.Facts.{lists_given}
use Rattle.matching.proofs.Rounds.{rejected_short}
use Rattle.matching.proofs.Reached.{Reached, zeros, pairs_few, away_rejected, reached_start, reached_few, reached_end, reached_next}
use Rattle.matching.proofs.farm.Farm.closing_rounds.Goals as goal

pub rounds-init : goal.rounds-init
rounds-init g c =
    let m = market c.args.self.now.lists.now in
    let C = g.P.Policy.chosen c.args.self.now.policy.now in
    let kept = g.met.P.Policy.lawful c.args.self.now.policy.now in
    let given = lists_given c.args.self.now.lists.now kept in (
      subst (Reached m C 0) (sym zeros) (reached_start given),
      ap (λ (p : Placed). place p.places) c.new-staffing.ensures ∙ c.standing.ensures,
      content_none kept.laws c.empty-accepted.result c.empty-accepted.ensures,
      refl,
      refl,
    )

pub turned_away-away-requires : goal.turned_away-away-requires
turned_away-away-requires g c = c.rounds.invariant.2

pub returns-then-not-is_anyone : goal.returns-then-not-is_anyone
returns-then-not-is_anyone g c =
    let m = market c.args.self.now.lists.now in
    let C = g.P.Policy.chosen c.args.self.now.policy.now in
    let given = lists_given c.args.self.now.lists.now (g.met.P.Policy.lawful c.args.self.now.policy.now) in
    let K = c.rounds.closed in
    let seats = c.rounds.staffing.placement in
    let out : members c.turned_away-away.result ≡ rejected m C K = c.turned_away-away.ensures.away ∙ away_rejected given K (place seats.places) c.rounds.invariant.1 in
    let end = reached_end given c.rounds.invariant.0 (ap (λ (A : Set). is_some (lowest 64 A)) (sym out) ∙ sym c.if-not-is_anyone.ensures) in
    record {
      placed = table_of_place seats.places seats.full ∙
          ap (λ (x : Placement). tabulate 64 x) (c.rounds.invariant.1 ∙ ap (λ (s : Outcome). stands m s.closed) (sym end));
      rounds = add-one c.rounds.closing ∙ ap (λ (s : Outcome). s.rounds) (sym end);
      few = omega (arith, reached_few given c.rounds.invariant.0, pairs_few given);
    }

pub close-requires : goal.close-requires
close-requires g c =
    let m = market c.args.self.now.lists.now in
    let C = g.P.Policy.chosen c.args.self.now.policy.now in
    let given = lists_given c.args.self.now.lists.now (g.met.P.Policy.lawful c.args.self.now.policy.now) in
    let K = c.rounds.closed in
    let out = c.turned_away-away.ensures.away ∙ away_rejected given K (place c.rounds.staffing.placement.places) c.rounds.invariant.1 in
    record {
      «open» = λ w h. rejected_short m C K w (sym (same_at out w) ∙ h);
      standing = c.rounds.invariant.1;
    }

pub overflow_add-closing : goal.overflow_add-closing
overflow_add-closing g c =
    let given = lists_given c.args.self.now.lists.now (g.met.P.Policy.lawful c.args.self.now.policy.now) in
    let a = reached_few given c.rounds.invariant.0 in
    let b = pairs_few given in
    omega arith

pub rounds-smaller : goal.rounds-smaller
rounds-smaller g c =
    let given = lists_given c.args.self.now.lists.now (g.met.P.Policy.lawful c.args.self.now.policy.now) in
    let a = reached_few given c.rounds.invariant.0 in
    omega arith

pub rounds-preserved : goal.rounds-preserved
rounds-preserved g c =
    let m = market c.args.self.now.lists.now in
    let C = g.P.Policy.chosen c.args.self.now.policy.now in
    let given = lists_given c.args.self.now.lists.now (g.met.P.Policy.lawful c.args.self.now.policy.now) in
    let K = c.rounds.closed in
    let out : members c.turned_away-away.result ≡ rejected m C K = c.turned_away-away.ensures.away ∙ away_rejected given K (place c.rounds.staffing.placement.places) c.rounds.invariant.1 in
    let next : next_round m C K ≡ c.close.new.closed = sym (c.close.ensures.closed ∙ ap (λ (S : Set). tabulate 64 (λ w. get_or K w 0 + cond (S w) 1 0)) out) in
    let more = reached_next given c.rounds.invariant.0 (ap (λ (A : Set). is_some (lowest 64 A)) (sym out) ∙ sym c.if-not-is_anyone.ensures) in
    (subst (Reached m C (c.rounds.closing + 1)) next more, c.close.ensures.standing, c.turned_away-away.ensures.content, c.close.array_long, c.turned_away-away.array_long)
