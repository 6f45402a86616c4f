-- The test of each number is the test of all.
use Rattle.std.proofs.Common.{ltb, rules, tests, ◌∙◌}
use Rattle.std.proofs.lemmas.Iterator.{YieldsList-from_slice}
use Rattle.std.proofs.lemmas.Iterator.Search.{all_from_yields_List}
use Rattle.policy.proofs.Bounds.{under_all}
use Rattle.policy.proofs.seated_policy.all_below.Goals as goal

pub returns-clause-test : goal.returns-clause-test
returns-clause-test c =
    let n = c.args.bound in
    let l = c.args.numbers.now in
    all_from_yields_List (λ u. ltb u n) _ _ _ c.all.ensures.ran (YieldsList-from_slice l cc) (λ x b q k. search (rules, tests)) ∙ under_all n l
