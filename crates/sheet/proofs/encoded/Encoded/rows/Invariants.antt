-- The fields of the rows before this one are there.
use Rattle.std.proofs.Common.{◌≡◌, ◌++◌, take}
use Rattle.sheet.specs.Encoding.{held, fields}
use Rattle.sheet.proofs.encoded.Encoded.rows.Given as goal

abbrev pub invariant-loop-number : goal.invariant-loop-number
invariant-loop-number g l = held l.self ≡ held l.initial.self ++ fields g.R.Rows.kind (take l.number (g.R.Rows.contents l.rows))
