-- What holds of every journal: events that were added are read, and events that are read are what was written.
use Rattle.std.specs.Prelude.{◌≡◌, ℕ, zero, suc, ◌+◌, ◌*◌, ◌≤◌, Bool, true, ◌&&◌, List, [], ◌∷◌, ◌++◌, map, length, take, drop, replicate, Some, None, Ok, Err, Option, Result}
use Rattle.std.specs.List.{flat_map}
use Rattle.fleet.specs.declared.Event.{Event}
use Rattle.journal.specs.declared.fault.JournalFault.{JournalFault}
use Rattle.journal.specs.Events.{encode, writable}
use Rattle.journal.specs.Adding.{added}
use Rattle.journal.specs.Reading.{event_at, next_place}

-- a journal can hold each event of the list
abbrev pub all_writable : List Event → Bool
all_writable [] = true
all_writable (e ∷ es) = writable e && all_writable es

-- the answer that is this event
abbrev pub handed : Event → Result (Option Event) JournalFault
handed e = Ok (Some e)

-- the answer at the end of a journal
abbrev pub at_end : Result (Option Event) JournalFault
at_end = Ok None

-- the answers to so many calls of a reader, from an offset on
abbrev pub answers : ℕ → List ℕ → ℕ → List (Result (Option Event) JournalFault)
answers zero bytes at = []
answers (suc calls) bytes at = event_at bytes at ∷ answers calls bytes (next_place bytes at)

-- the offset after so many calls
abbrev pub reached : ℕ → List ℕ → ℕ → ℕ
reached zero bytes at = at
reached (suc calls) bytes at = reached calls bytes (next_place bytes at)

-- the event in an answer
abbrev pub event_of_answer : Result (Option Event) JournalFault → List Event
event_of_answer (Ok (Some e)) = e ∷ []
event_of_answer (Ok None) = []
event_of_answer (Err f) = []

-- the events that so many calls hand out, from an offset on
abbrev pub events_read : ℕ → List ℕ → ℕ → List Event
events_read calls bytes at = flat_map event_of_answer (answers calls bytes at)

-- the buffer after these events were added one after the other behind so many bytes
abbrev pub added_all : ℕ → List Event → List ℕ → List ℕ
added_all used [] buffer = buffer
added_all used (e ∷ es) buffer = added_all (used + 15) es (added used e buffer)

-- whatever stands before and behind it, an event that was added is read as the same event
abbrev pub AddedIsRead : Event → Type 0
AddedIsRead e = writable e ≡ true → (before behind : List ℕ) → event_at (before ++ (encode e ++ behind)) (length before) ≡ handed e

-- events that are added one after the other to an empty journal with room for them are read in this order, and then the end is read, however often
abbrev pub JournalIsRead : Type 0
JournalIsRead = (es : List Event) (buffer : List ℕ) → all_writable es ≡ true → 15 * length es ≤ length buffer → (more : ℕ) →
    answers (length es + more) (take (15 * length es) (added_all 0 es buffer)) 0 ≡ map handed es ++ replicate more at_end

-- an event that is read here is one that a journal can hold, and adding it writes the same 15 bytes
abbrev pub ReadIsWritten : List ℕ → ℕ → Type 0
ReadIsWritten bytes at = (e : Event) → event_at bytes at ≡ handed e → (writable e ≡ true) × (encode e ≡ take 15 (drop at bytes))

-- what the calls of a reader hand out
pub record ReadingLaw (bytes : List ℕ) : Type 0 where
  -- events that a journal can hold
  pub held : (calls : ℕ) → all_writable (events_read calls bytes 0) ≡ true
  -- their bytes, one after the other, are those that were passed over
  pub passed : (calls : ℕ) → flat_map encode (events_read calls bytes 0) ≡ take (reached calls bytes 0) bytes
  -- at the end they are all bytes
  pub whole : (calls : ℕ) → event_at bytes (reached calls bytes 0) ≡ at_end → flat_map encode (events_read calls bytes 0) ≡ bytes
  -- bytes of events are read as these events, and then as the end, however often
  pub listed : (es : List Event) → all_writable es ≡ true → flat_map encode es ≡ bytes → (more : ℕ) →
      answers (length es + more) bytes 0 ≡ map handed es ++ replicate more at_end
  -- where no event was handed out, the same is answered again, however often
  pub stuck : (calls more : ℕ) → event_of_answer (event_at bytes (reached calls bytes 0)) ≡ [] →
      answers more bytes (reached calls bytes 0) ≡ replicate more (event_at bytes (reached calls bytes 0))
