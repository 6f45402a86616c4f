-- Reading the events of a journal.
use Rattle.std.specs.Prelude.{ℕ, ◌+◌, cond, List, length, Some, None, Ok, Err, Option, Result, ◌==◌}
use Rattle.fleet.specs.declared.Event.{Event}
use Rattle.sheet.specs.declared.faults.FramingFault.{FramingFault}
use Rattle.sheet.specs.declared.faults.Report.{Report}
use Rattle.sheet.specs.Faults.{plain}
use Rattle.sheet.specs.Framing.{Part, frame_at, input}
use Rattle.journal.specs.declared.fault.JournalFault.{JournalFault}
use Rattle.journal.specs.declared.fault.JournalFault.TheVariants.{Framing, Tag, Length, Range}
use Rattle.journal.specs.declared.reading.EventReader.{EventReader}
use Rattle.journal.specs.Events.{event_of, outside}

-- what is told of a fault: its number, its place and its layer; there are no sets
abbrev pub report_of : JournalFault → Report
report_of (Framing f) = plain 10 f.at 1
report_of (Tag at) = plain 11 at 2
report_of (Length at) = plain 12 at 2
report_of (Range at) = plain 13 at 2

-- the event of the field at an offset, or the fault at the first of its numbers that is outside its range
abbrev pub ranged : ℕ → Event → Option ℕ → Result Event JournalFault
ranged at e None = Ok e
ranged at e (Some offset) = Err (Range (at + offset))

-- the event that a field says: 11 for another tag than 7, then 12 for another length than 12, then 13 for a number out of range
abbrev pub event_in : Part → Result Event JournalFault
event_in f =
    cond (f.tag == 7)
    (cond (length f.content == 12) (ranged f.at (event_of f.content) (outside (event_of f.content))) (Err (Length f.at)))
    (Err (Tag f.at))

-- an event that was there
abbrev pub there : Result Event JournalFault → Result (Option Event) JournalFault
there (Ok e) = Ok (Some e)
there (Err f) = Err f

-- what a field says, or the end, or 10 for a field that is cut off
abbrev pub event_said : Result (Option Part) FramingFault → Result (Option Event) JournalFault
event_said (Ok (Some f)) = there (event_in f)
event_said (Ok None) = Ok None
event_said (Err f) = Err (Framing f)

-- what stands at an offset of a journal: an event, the end, or a fault
abbrev pub event_at : List ℕ → ℕ → Result (Option Event) JournalFault
event_at bytes at = event_said (frame_at bytes at)

-- how far an event reaches: nothing is passed over at the end or at a fault
abbrev pub past : ℕ → Result (Option Event) JournalFault → ℕ
past at (Ok (Some e)) = at + 15
past at (Ok None) = at
past at (Err f) = at

-- the offset after what stands at an offset
abbrev pub next_place : List ℕ → ℕ → ℕ
next_place bytes at = past at (event_at bytes at)

-- the journal that a reader walks over
abbrev pub journal_of : EventReader → List ℕ
journal_of r = input r.fields

-- the offset where a reader stands
abbrev pub stands_at : EventReader → ℕ
stands_at r = r.fields.place
