-- The lists are sound.
use Rattle.fleet.proofs.Sound.{lists_sound}
use Rattle.fleet.proofs.lists.Lists.workers.Goals as goal

pub returns-clause-sound : goal.returns-clause-sound
returns-clause-sound c = lists_sound c.args.self.now
