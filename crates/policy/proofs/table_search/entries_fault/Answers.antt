-- The index found is below the number of entries, and so fits a byte.
use Rattle.std.proofs.Common.{length, arith, sym, ◌∙◌}
use Rattle.policy.specs.Tables.{outside}
use Rattle.policy.specs.Searches.{seek_below}
use Rattle.policy.proofs.table_search.entries_fault.Goals as goal

pub map-requires : goal.map-requires
map-requires c x e known fits =
    let es = c.args.entries.now in
    omega (arith, c.requires, seek_below (length es) x (outside es) (sym e ∙ c.first_outside.ensures))
