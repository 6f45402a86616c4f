-- Adding an event behind the bytes of a journal.
use Rattle.std.specs.Prelude.{ℕ, ◌+◌, cond, List, ◌++◌, length, take, drop, Ok, Err, Result, nat_le}
use Rattle.fleet.specs.declared.Event.{Event}
use Rattle.journal.specs.declared.refusal.AddRefusal.{AddRefusal}
use Rattle.journal.specs.declared.refusal.AddRefusal.TheVariants.{OutOfRange, NoRoom}
use Rattle.journal.specs.Events.{encode, in_range}

-- the number of a refusal
abbrev pub refusal_number : AddRefusal → ℕ
refusal_number OutOfRange = 13
refusal_number NoRoom = 50

-- an answer with the refusal as its number
abbrev pub add_told : Result ℕ AddRefusal → Result ℕ ℕ
add_told (Ok n) = Ok n
add_told (Err e) = Err (refusal_number e)

-- what is answered where so many bytes of the buffer are used: 13 for an event with a number out of range, then 50 where fewer than 15 bytes are free
abbrev pub add_answer : ℕ → Event → List ℕ → Result ℕ ℕ
add_answer used e buffer = cond (in_range e) (cond (nat_le (used + 15) (length buffer)) (Ok (used + 15)) (Err 50)) (Err 13)

-- the buffer afterwards: the event behind the bytes that are used, or the same as before
abbrev pub added : ℕ → Event → List ℕ → List ℕ
added used e buffer = cond (in_range e) (cond (nat_le (used + 15) (length buffer)) (take used buffer ++ (encode e ++ drop (used + 15) buffer)) buffer) buffer
