-- The workers so far are read, and what is left to read gives what the whole gives.
use Rattle.std.proofs.Common.{◌≡◌, ℕ, ◌-◌, ◌≤◌, true, length, get_or}
use Rattle.fleet.specs.Sets.{all_under}
use Rattle.fleet.specs.Lists.{market}
use Rattle.sheet.specs.Framing.{input}
use Rattle.sheet.specs.Reading.{read_workers, no_text, crew_text}
use Rattle.sheet.proofs.reading.read_workers.Given as goal

abbrev pub invariant-loop-worker : goal.invariant-loop-worker
invariant-loop-worker l =
    (input l.reader ≡ input l.initial.reader) × (length l.classes ≡ 64) × (all_under 8 l.classes ≡ true)
    × ((market l.lists).workers ≡ l.size.workers) × ((market l.lists).tenants ≡ l.size.tenants)
    × (read_workers l.size.workers l.size (input l.initial.reader) (record { place = l.initial.reader.place; lowest = 3; text = no_text })
    ≡ read_workers (l.size.workers - l.worker) l.size (input l.initial.reader) (record { place = l.reader.place; lowest = 3; text = crew_text (market l.lists) l.classes l.worker }))
    × ((w : ℕ) → l.worker ≤ w → get_or l.classes w 0 ≡ 0)
