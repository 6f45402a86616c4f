-- What is told of a fault: its number, its place, its layer, and two sets, 0 where there are none.
use Rattle.std.specs.Prelude.{ℕ}
use Rattle.policy.specs.Faults.{law_number}
use Rattle.sheet.specs.declared.faults.FieldFault.{FieldFault}
use Rattle.sheet.specs.declared.faults.FieldFault.TheVariants.{Framing, Tag, Length, Range, Repeat, Surplus}
use Rattle.sheet.specs.declared.faults.SheetFault.{SheetFault}
use Rattle.sheet.specs.declared.faults.SheetFault.TheVariants.{Field, Outside, Broken}
use Rattle.sheet.specs.declared.faults.Report.{Report}

-- a fault without sets
abbrev pub plain : ℕ → ℕ → ℕ → Report
plain number at layer = record { number = number; at = at; layer = layer; outer = 0; inner = 0 }

-- what is told of a fault of layer 1 or 2
abbrev pub field_report : FieldFault → Report
field_report (Framing f) = plain 10 f.at 1
field_report (Tag at) = plain 11 at 2
field_report (Length at) = plain 12 at 2
field_report (Range at) = plain 13 at 2
field_report (Repeat at) = plain 14 at 2
field_report (Surplus at) = plain 15 at 2

-- what is told of any fault
abbrev pub report : SheetFault → Report
report (Field f) = field_report f
report (Outside at) = plain 20 at 3
report (Broken at law z y) = record { number = law_number law; at = at; layer = 3; outer = z; inner = y }
