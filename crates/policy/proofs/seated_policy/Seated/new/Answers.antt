-- How many a tenant chooses.
use Rattle.policy.specs.SeatsLemmas.{seated_count}
use Rattle.policy.proofs.seated_policy.Seated.new.Goals as goal

pub returns-then-all_below-clause-law : goal.returns-then-all_below-clause-law
returns-then-all_below-clause-law c = seated_count

pub returns-else-all_below-clause-law : goal.returns-else-all_below-clause-law
returns-else-all_below-clause-law c = seated_count
