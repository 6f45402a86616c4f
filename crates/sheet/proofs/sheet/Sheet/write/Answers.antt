-- A sheet is well formed, so its bytes are few, are read again, and are its own.
use Rattle.sheet.specs.Says.{text}
use Rattle.sheet.proofs.Short.{short}
use Rattle.sheet.proofs.WrittenIsRead.{written_is_read, one_sheet}
use Rattle.sheet.proofs.sheet.Sheet.write.Goals as goal

pub returns-clause-law : goal.returns-clause-law
returns-clause-law c =
    let s = c.args.self.now in
    record {
      short = short (text s) s.formed;
      read_again = written_is_read (text s) s.formed;
      only_one = λ u good e. one_sheet u (text s) good s.formed e;
    }
