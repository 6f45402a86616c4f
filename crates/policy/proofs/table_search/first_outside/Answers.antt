-- The search goes up the indices.
use Rattle.std.proofs.Common.{length, rules, tests}
use Rattle.policy.specs.Tables.{outside}
use Rattle.policy.proofs.Finding.{seek_from_find}
use Rattle.policy.proofs.table_search.first_outside.Goals as goal

pub returns : goal.returns
returns c = let es = c.args.entries.now in seek_from_find (length es) (outside es) _ _ c.find.result c.find.ensures.ran (λ x b q k. search (rules, tests))
