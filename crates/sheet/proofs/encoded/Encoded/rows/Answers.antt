-- There is room for one field more.
use Rattle.std.proofs.Common.{[], take, ap, arith, length, length-append}
use Rattle.std.proofs.lemmas.List.Folds.{length-flat_map-take}
use Rattle.sheet.specs.Sheets.{written}
use Rattle.sheet.specs.Encoding.{held, fields}
use Rattle.sheet.proofs.encoded.Encoded.rows.Goals as goal

pub put-requires-clause-room : goal.put-requires-clause-room
put-requires-clause-room g c =
    let kind = g.R.Rows.kind in
    let contents = g.R.Rows.contents c.args.rows.now in
    let n = c.loop-number.number in
    let there = ap length c.loop-number.invariant in
    omega (arith, there, length-append (held c.args.self.now) (fields kind (take n contents)), length-flat_map-take (written kind) contents n [] (omega arith), c.requires)
