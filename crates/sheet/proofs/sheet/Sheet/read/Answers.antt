-- Bytes are read exactly where they are those of a well-formed sheet, whatever is answered.
use Rattle.std.proofs.Common.{ℕ, List, sym, ap, ◌∙◌, arith}
use Rattle.sheet.specs.Reading.{decode}
use Rattle.sheet.specs.Laws.{Bytes, ReadsExactly}
use Rattle.sheet.proofs.ReadIsWritten.{read_is_written}
use Rattle.sheet.proofs.WrittenIsRead.{written_is_read}
use Rattle.sheet.proofs.sheet.Sheet.read.Goals as goal

reads_exactly : (bytes : List ℕ) → Bytes bytes → ReadsExactly bytes
reads_exactly bytes small s = (read_is_written bytes small s, λ h. ap decode (sym h.1) ∙ written_is_read s h.0)

pub returns-in_err-self-clause-exact : goal.returns-in_err-self-clause-exact
returns-in_err-self-clause-exact c = reads_exactly c.args.bytes.now (λ k. omega (arith, c.type_inv.bytes k))

pub returns-clause-exact : goal.returns-clause-exact
returns-clause-exact c = reads_exactly c.args.bytes.now (λ k. omega (arith, c.type_inv.bytes k))
