-- The search goes up the numbers of workers.
use Rattle.std.proofs.Common.{eqb, rules, tests}
use Rattle.policy.specs.Tables.{table_length}
use Rattle.policy.proofs.Finding.{seek_from_find}
use Rattle.policy.proofs.table_search.workers_of.Goals as goal

pub returns : goal.returns
returns c = seek_from_find 9 (λ n. eqb (table_length n) c.args.total) _ _ c.find.result c.find.ensures.ran (λ x b q k. search (rules, tests))
