-- What an input comes to: the sheet that it says, or why it says none.
use Rattle.std.specs.Prelude.{ℕ, cond, List, length, Ok, Err, Result, nat_lt}
use Rattle.sheet.specs.declared.faults.SheetFault.{SheetFault}
use Rattle.sheet.specs.declared.sheet.Sheet.{Sheet}
use Rattle.sheet.specs.Faults.{report}
use Rattle.sheet.specs.Sheets.{SheetText}
use Rattle.sheet.specs.Reading.{decode}
use Rattle.sheet.specs.Says.{text}
use Rattle.report.specs.declared.input.Unread.{Unread}
use Rattle.report.specs.declared.input.Unread.TheVariants.{TooLong, Faulty}

-- what a sheet that was read says, or why none was
abbrev pub sheet_told : Result Sheet Unread → Result SheetText Unread
sheet_told (Ok s) = Ok (text s)
sheet_told (Err u) = Err u

-- what bytes say that are not too long, or the report of their fault
abbrev pub said : Result SheetText SheetFault → Result SheetText Unread
said (Ok s) = Ok s
said (Err f) = Err (Faulty (report f))

-- at most 65,536 bytes are looked at
abbrev pub input_text : List ℕ → Result SheetText Unread
input_text bytes = cond (nat_lt 65536 (length bytes)) (Err TooLong) (said (decode bytes))

-- what a sheet comes to, if there is one
abbrev pub of_sheet : {X : Type 0} → (SheetText → X) → Result SheetText Unread → Result X Unread
of_sheet f (Ok s) = Ok (f s)
of_sheet f (Err u) = Err u

-- what the sheet comes to that an input says, or why it says none
abbrev pub come_to : {X : Type 0} → (SheetText → X) → List ℕ → Result X Unread
come_to f bytes = of_sheet f (input_text bytes)
