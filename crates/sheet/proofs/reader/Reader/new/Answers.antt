-- The law of the fields, from Parts.
use Rattle.std.proofs.Common.{arith}
use Rattle.sheet.proofs.Parts.{fields_are_the_bytes}
use Rattle.sheet.proofs.reader.Reader.new.Goals as goal

pub returns-clause-whole : goal.returns-clause-whole
returns-clause-whole c = fields_are_the_bytes c.args.bytes.now (λ k. omega (arith, c.type_inv.bytes k))
