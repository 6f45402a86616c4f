-- Each test gives the first fault, and the searches find the least.
use Rattle.std.proofs.Common.{rules}
use Rattle.policy.specs.Searches.{search_least}
use Rattle.policy.proofs.table_policy.table_fault.Goals as goal

pub returns-then-len-gt8 : goal.returns-then-len-gt8
returns-then-len-gt8 c = record { fault = search rules; law = search_least }

pub returns-then-entries-len : goal.returns-then-entries-len
returns-then-entries-len c = record { fault = search rules; law = search_least }

pub returns : goal.returns
returns c = record { fault = search rules; law = search_least }
