-- The worked cases, computed.
use Rattle.std.proofs.Common.{refl}
use lib.Count.{ones}
use Rattle.policy.specs.Search.{seek, seek_pair}
use Rattle.matching.specs.Entries.{tabulate}
use Rattle.rotation.specs.Rotation.{target}
use Rattle.rotation.specs.Moves.{carried, walk}
use Rattle.cases.proofs.worked_cases.Goals as goal

pub returns-clause-hold : goal.returns-clause-hold
unfolding tabulate target carried walk seek seek_pair ones
returns-clause-hold c = refl
