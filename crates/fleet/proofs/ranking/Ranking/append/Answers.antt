-- There is room for a number that is not ranked, and it comes last.
use Rattle.std.proofs.Common.{◌∙◌, arith, length-set}
use Rattle.fleet.proofs.Pushing.{room, longer, longer_within, longer_apart}
use Rattle.fleet.proofs.ranking.Ranking.append.Goals as goal

pub bounds-self-self : goal.bounds-self-self
bounds-self-self g c = room c.args.self.now c.args.number c.requires.0 c.requires.1

pub invariant_of-self : goal.invariant_of-self
invariant_of-self g c =
    let r = c.args.self.now in
    let v = c.args.number in
    let small = c.requires.0 in
    let new = c.requires.1 in
    record { room = length-set r.items r.len v ∙ r.room; short = omega (arith, room r v small new); within = longer_within r v small new; apart = longer_apart r v small new }

pub returns : goal.returns
returns g c = longer c.args.self.now c.args.number c.requires.0 c.requires.1
