-- How many a tenant chooses.
use Rattle.policy.specs.RanksLemmas.{ranked_count}
use Rattle.policy.proofs.ranked_policy.Ranked.empty.Goals as goal

pub returns-clause-law : goal.returns-clause-law
returns-clause-law c = ranked_count
