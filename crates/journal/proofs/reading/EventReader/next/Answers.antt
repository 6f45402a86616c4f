-- What is read is what was written, from OneEvent.
use Rattle.journal.specs.Reading.{journal_of, stands_at}
use Rattle.journal.proofs.OneEvent.{read_is_written}
use Rattle.journal.proofs.reading.EventReader.next.Goals as goal

pub returns-clause-again : goal.returns-clause-again
returns-clause-again c = read_is_written (journal_of c.args.self.now) (stands_at c.args.self.now) c.args.self.now.fields.octets
