-- The first number of the list that does not pass is what the search upward finds.
use Rattle.std.proofs.Common.{ℕ, Bool, not, length, get_or, arith, rules}
use Rattle.std.proofs.lemmas.Iterator.{YieldsList-from_range}
use Rattle.std.proofs.lemmas.Iterator.Search.{find_from_yields_List}
use borrow.Author.Tests.{tests}
use Rattle.sheet.specs.Fields.{in_range, list_end}
use Rattle.sheet.proofs.Finds.{sought}
use Rattle.sheet.proofs.contents.first_out_of_range.Goals as goal

pub returns-clause-value : goal.returns-clause-value
returns-clause-value c =
    let off : ℕ → Bool = λ i. not (in_range c.args.kind c.args.size i (get_or c.args.content.now i 0)) in
    let n = list_end c.args.kind (length c.args.content.now) in
    sought n off c.find.result (find_from_yields_List off _ _ c.find.result c.find.ensures.ran (YieldsList-from_range 0 c.list_end-end.result n (cc) (grind arith)) (λ x b q k. search (rules, tests)))
