-- The theory of settling, at the placement that was found.
use Rattle.std.proofs.Common.{sym, ap, ◌∙◌, subst, arith}
use Rattle.fleet.specs.Lists.{market}
use Rattle.matching.specs.Entries.{place}
use Rattle.matching.specs.Stable.{Stable, WorkerBest}
use Rattle.matching.proofs.Facts.{lists_given}
use Rattle.matching.proofs.Settles.{settled_stable, settled_best, few_rounds, settled_place}
use Rattle.matching.proofs.farm.Farm.settle.Goals as goal

pub returns-clause-stable : goal.returns-clause-stable
returns-clause-stable g c =
    let m = market c.args.self.now.lists.now in
    let C = g.P.Policy.chosen c.args.self.now.policy.now in
    let given = lists_given c.args.self.now.lists.now (g.met.P.Policy.lawful c.args.self.now.policy.now) in
    subst (Stable m C) (sym (ap place c.closing_rounds-closing.ensures.placed ∙ settled_place m C given.sound)) (settled_stable given)

pub returns-clause-best : goal.returns-clause-best
returns-clause-best g c =
    let m = market c.args.self.now.lists.now in
    let C = g.P.Policy.chosen c.args.self.now.policy.now in
    let given = lists_given c.args.self.now.lists.now (g.met.P.Policy.lawful c.args.self.now.policy.now) in
    subst (WorkerBest m C) (sym (ap place c.closing_rounds-closing.ensures.placed ∙ settled_place m C given.sound)) (settled_best given)

pub returns-clause-few : goal.returns-clause-few
returns-clause-few g c =
    omega (arith, c.closing_rounds-closing.ensures.rounds, few_rounds (market c.args.self.now.lists.now) (g.P.Policy.chosen c.args.self.now.policy.now))
