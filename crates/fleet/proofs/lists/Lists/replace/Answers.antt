-- The lists stay sound where one is replaced.
use Rattle.std.proofs.Common.{◌∙◌, length-set}
use Rattle.fleet.proofs.Sound.{set_below, set_past}
use Rattle.fleet.proofs.lists.Lists.replace.Goals as goal

pub invariant_of-self : goal.invariant_of-self
invariant_of-self c =
    let l = c.args.self.now in
    let w = c.args.worker in
    let r = c.args.ranking in
    let known = c.requires.known in
    let under = c.requires.under in record { rooms = length-set l.rows w r ∙ l.rooms; manned = l.manned; crew = l.crew; hosted = l.hosted; hosts = l.hosts; below = set_below l w r known under; past = set_past l w r known under }
