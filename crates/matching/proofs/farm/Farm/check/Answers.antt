-- The verdict on the placement that was read, what it says, and the laws of any two stable placements, from Faults and Lattice.
use Rattle.std.proofs.Common.{◌≡◌, ℕ, ap, ◌∙◌}
use Rattle.fleet.specs.Lists.{market}
use Rattle.fleet.specs.Market.{Placement}
use Rattle.matching.specs.Checking.{verdict, placed_by}
use Rattle.matching.proofs.Facts.{lists_given}
use Rattle.matching.proofs.Faults.{verdict_stable, past_none}
use Rattle.matching.proofs.Lattice.{lattice_laws}
use Rattle.matching.proofs.farm.Farm.check.Goals as goal

pub returns-in-Ok : goal.returns-in-Ok
returns-in-Ok g c =
    let farm = c.args.self.now in
    let m = market farm.lists.now in
    let C = g.P.Policy.chosen farm.policy.now in
    let given = lists_given farm.lists.now (g.met.P.Policy.lawful farm.policy.now) in
    let e : ◌≡◌ {A = ℕ × ℕ × ℕ} (0, 0, 0) (verdict m C (placed_by m c.args.places.now)) = c.in-Ok.ensures ∙ ap (λ (y : Placement). verdict m C y) c.staffing_of-staffing.ensures in
    record { verdict = e; stable = verdict_stable given (placed_by m c.args.places.now) (past_none m c.args.places.now) (0, 0, 0) e; lattice = lattice_laws given }

pub returns-in-Err : goal.returns-in-Err
returns-in-Err g c =
    let farm = c.args.self.now in
    let m = market farm.lists.now in
    let C = g.P.Policy.chosen farm.policy.now in
    let given = lists_given farm.lists.now (g.met.P.Policy.lawful farm.policy.now) in
    let e : c.numbers.result ≡ verdict m C (placed_by m c.args.places.now) = c.numbers.ensures ∙ c.in-Err.ensures ∙ ap (λ (y : Placement). verdict m C y) c.staffing_of-staffing.ensures in
    record { verdict = e; stable = verdict_stable given (placed_by m c.args.places.now) (past_none m c.args.places.now) c.numbers.result e; lattice = lattice_laws given }
