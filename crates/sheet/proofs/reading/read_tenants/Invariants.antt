-- The tenants so far are read, and what is left to read gives what the whole gives.
use Rattle.std.proofs.Common.{◌≡◌, ◌+◌, ◌-◌, List, length}
use Rattle.policy.specs.Ranks.{ranks}
use Rattle.policy.specs.Seats.{seats}
use Rattle.policy.specs.Entries.{tables}
use Rattle.sheet.specs.Framing.{input}
use Rattle.sheet.specs.Sheets.{WorkerRow}
use Rattle.sheet.specs.Reading.{read_tenants, rows_text, tenants_text}
use Rattle.sheet.proofs.reading.read_tenants.Given as goal

abbrev pub invariant-loop-number : goal.invariant-loop-number
invariant-loop-number l =
    (input l.reader ≡ input l.initial.reader)
    × (l.tenants.seated.common.classes ≡ l.initial.tenants.seated.common.classes)
    × (length (ranks l.tenants.ranked) + length (seats l.tenants.seated) + length (tables l.tenants.tables) ≡ l.number)
    × ((rows : List WorkerRow) →
    read_tenants l.size.tenants l.size (input l.initial.reader) (record { place = l.initial.reader.place; lowest = 3; text = rows_text rows })
    ≡ read_tenants (l.size.tenants - l.number) l.size (input l.initial.reader) (record { place = l.reader.place; lowest = l.lowest; text = tenants_text rows l.tenants }))
