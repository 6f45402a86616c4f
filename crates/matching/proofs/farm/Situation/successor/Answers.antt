-- One is put out at most, from Displaced.
use Rattle.matching.proofs.Facts.{lists_given}
use Rattle.matching.proofs.Displaced.{one_out}
use Rattle.matching.proofs.farm.Situation.successor.Goals as goal

pub returns-clause-one : goal.returns-clause-one
returns-clause-one g c st t u v e =
    let farm = c.args.self.now.farm.now in
    one_out (lists_given farm.lists.now (g.met.P.Policy.lawful farm.policy.now)) st c.args.worker t e u v
