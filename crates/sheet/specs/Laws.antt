-- What holds of the fields of any input, and of every sheet and its bytes.
use Rattle.std.specs.Prelude.{◌≡◌, ℕ, zero, suc, ◌<◌, ◌≤◌, true, List, [], ◌++◌, length, take, Ok, slice_index}
use Rattle.std.specs.List.{flat_map}
use Rattle.sheet.specs.Framing.{Part, field_bytes, frame_at, fields_in, place_after}
use Rattle.sheet.specs.Sheets.{SheetText, encode, well_formed}
use Rattle.sheet.specs.Reading.{decode}

-- each number of the list is a byte
abbrev pub Bytes : List ℕ → Type 0
Bytes l = (k : ℕ) → slice_index l k < 256

-- the fields that so many calls hand out, from an offset on
abbrev pub handed_out : ℕ → List ℕ → ℕ → List Part
handed_out zero bytes at = []
handed_out (suc calls) bytes at = fields_in (frame_at bytes at) ++ handed_out calls bytes (place_after bytes at)

-- the offset after so many calls
abbrev pub reached : ℕ → List ℕ → ℕ → ℕ
reached zero bytes at = at
reached (suc calls) bytes at = reached calls bytes (place_after bytes at)

-- however many calls are made, the fields handed out, written one after the other, are the bytes that were read
abbrev pub FieldsAreTheBytes : List ℕ → Type 0
FieldsAreTheBytes bytes = (calls : ℕ) → flat_map field_bytes (handed_out calls bytes 0) ≡ take (reached calls bytes 0) bytes

-- bytes that are read are those of the sheet that they say, which is well formed
abbrev pub ReadIsWritten : Type 0
ReadIsWritten = (bytes : List ℕ) → Bytes bytes → (s : SheetText) → decode bytes ≡ Ok s → (well_formed s ≡ true) × (encode s ≡ bytes)

-- the bytes of a well-formed sheet are read without a fault, and say that sheet
abbrev pub WrittenIsRead : Type 0
WrittenIsRead = (s : SheetText) → well_formed s ≡ true → decode (encode s) ≡ Ok s

-- well-formed sheets with the same bytes are the same
abbrev pub OneSheet : Type 0
OneSheet = (s u : SheetText) → well_formed s ≡ true → well_formed u ≡ true → encode s ≡ encode u → s ≡ u

-- a sheet has at most 5,624 bytes
abbrev pub Short : Type 0
Short = (s : SheetText) → well_formed s ≡ true → length (encode s) ≤ 5624

-- these bytes are read exactly where they are those of a well-formed sheet, and then they say that sheet
abbrev pub ReadsExactly : List ℕ → Type 0
ReadsExactly bytes = (s : SheetText) →
    (decode bytes ≡ Ok s → (well_formed s ≡ true) × (encode s ≡ bytes)) × ((well_formed s ≡ true) × (encode s ≡ bytes) → decode bytes ≡ Ok s)

-- the bytes of this sheet are at most 5,624, they are read without a fault and say the sheet, and no other well-formed sheet has them
pub record WrittenLaw (s : SheetText) : Type 0 where
  pub short : length (encode s) ≤ 5624
  pub read_again : decode (encode s) ≡ Ok s
  pub only_one : (u : SheetText) → well_formed u ≡ true → encode u ≡ encode s → u ≡ s
