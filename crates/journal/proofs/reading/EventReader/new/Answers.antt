-- The law of a reader's calls, from Runs.
use Rattle.std.proofs.Common.{arith}
use Rattle.journal.proofs.Runs.{reading_law}
use Rattle.journal.proofs.reading.EventReader.new.Goals as goal

pub returns-clause-law : goal.returns-clause-law
returns-clause-law c = reading_law c.args.bytes.now (λ k. omega (arith, c.type_inv.bytes k))
