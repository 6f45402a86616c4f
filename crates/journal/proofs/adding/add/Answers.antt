-- Events that were added are read again, whatever is answered, from OneEvent and Adds.
use Rattle.journal.proofs.OneEvent.{added_is_read}
use Rattle.journal.proofs.Adds.{journal_is_read}
use Rattle.journal.proofs.adding.add.Goals as goal

pub returns-then-not-is_in_range-clause-again : goal.returns-then-not-is_in_range-clause-again
returns-then-not-is_in_range-clause-again c = (added_is_read c.args.event, journal_is_read)

pub returns-then-used-buffer-clause-again : goal.returns-then-used-buffer-clause-again
returns-then-used-buffer-clause-again c = (added_is_read c.args.event, journal_is_read)

pub returns-clause-again : goal.returns-clause-again
returns-clause-again c = (added_is_read c.args.event, journal_is_read)
