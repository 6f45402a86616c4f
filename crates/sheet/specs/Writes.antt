-- What writing a sheet into a buffer answers and leaves.
use Rattle.std.specs.Prelude.{ℕ, cond, List, ◌++◌, length, drop, Ok, Err, Result, nat_lt}
use Rattle.sheet.specs.declared.sheets.WriteRefusal.{WriteRefusal}
use Rattle.sheet.specs.declared.sheets.WriteRefusal.TheVariants.{NoRoom}

-- the refusal by number
abbrev pub refusal_number : WriteRefusal → ℕ
refusal_number NoRoom = 50

-- the length, or the refusal's number
abbrev pub write_told : Result ℕ WriteRefusal → Result ℕ ℕ
write_told (Ok n) = Ok n
write_told (Err e) = Err (refusal_number e)

-- the length of the bytes, or 50 where the buffer is shorter
abbrev pub write_answer : List ℕ → List ℕ → Result ℕ ℕ
write_answer bytes buffer = cond (nat_lt (length buffer) (length bytes)) (Err 50) (Ok (length bytes))

-- the bytes in front of what the buffer has past them; a shorter buffer stays as it was
abbrev pub written_over : List ℕ → List ℕ → List ℕ
written_over bytes buffer = cond (nat_lt (length buffer) (length bytes)) buffer (bytes ++ drop (length bytes) buffer)
