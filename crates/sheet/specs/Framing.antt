-- Layer 1. A field is a tag byte, a length of two bytes, low byte first, and that many bytes of content.
use Rattle.std.specs.Prelude.{ℕ, ◌+◌, ◌-◌, ◌*◌, ◌/◌, ◌%◌, Bool, cond, ◌||◌, List, [], ◌∷◌, length, take, drop, Some, None, Ok, Err, Option, Result, ◌==◌, nat_lt, slice_index}
use Rattle.sheet.specs.declared.frame.Frame.{Frame}
use Rattle.sheet.specs.declared.faults.FramingFault.{FramingFault}
use Rattle.sheet.specs.declared.reader.Reader.{Reader}

-- a field as a part of the input: its tag, the offset of its first byte, and its content
pub record Part : Type 0 where
  pub tag : ℕ
  pub at : ℕ
  pub content : List ℕ

-- the bytes that a field is written as
abbrev pub field_bytes : Part → List ℕ
field_bytes f = f.tag ∷ (length f.content % 256) ∷ (length f.content / 256) ∷ f.content

-- the length that the field at this offset says its content has
abbrev pub stated_length : List ℕ → ℕ → ℕ
stated_length bytes at = slice_index bytes (at + 1) + 256 * slice_index bytes (at + 2)

-- the field at this offset, if all of it is there
abbrev pub whole_field : List ℕ → ℕ → Part
whole_field bytes at = record { tag = slice_index bytes at; at = at; content = take (stated_length bytes at) (drop (at + 3) bytes) }

-- fewer than three bytes are left, or fewer than the field's content has
abbrev pub cut_off : List ℕ → ℕ → Bool
cut_off bytes at = let left = length bytes - at in nat_lt left 3 || nat_lt (left - 3) (stated_length bytes at)

-- what stands at an offset: the end of the input, a field that is cut off, or a field
abbrev pub frame_at : List ℕ → ℕ → Result (Option Part) FramingFault
frame_at bytes at = cond (length bytes - at == 0) (Ok None) (cond (cut_off bytes at) (Err (record { at = at })) (Ok (Some (whole_field bytes at))))

-- how far a field reaches: nothing is passed over at the end of the input or at a fault
abbrev pub end_of : ℕ → Result (Option Part) FramingFault → ℕ
end_of at (Ok (Some f)) = at + 3 + length f.content
end_of at (Ok None) = at
end_of at (Err e) = at

-- the offset after what stands at an offset
abbrev pub place_after : List ℕ → ℕ → ℕ
place_after bytes at = end_of at (frame_at bytes at)

-- the field itself, where there is one
abbrev pub fields_in : Result (Option Part) FramingFault → List Part
fields_in (Ok (Some f)) = f ∷ []
fields_in (Ok None) = []
fields_in (Err e) = []

-- a frame of the program as a part
abbrev pub part_of : Frame → Part
part_of f = record { tag = f.tag; at = f.at; content = f.content.now }

-- what a reader hands out, as parts
abbrev pub found : Result (Option Frame) FramingFault → Result (Option Part) FramingFault
found (Ok (Some f)) = Ok (Some (part_of f))
found (Ok None) = Ok None
found (Err e) = Err e

-- the bytes that a reader walks over
abbrev pub input : Reader → List ℕ
input r = r.bytes.now

-- where a field has to be, none is one that is cut off
abbrev pub required : ℕ → Result (Option Part) FramingFault → Result Part FramingFault
required at (Ok (Some f)) = Ok f
required at (Ok None) = Err (record { at = at })
required at (Err e) = Err e

-- what a reader hands out where a field has to be, as a part
abbrev pub handed : Result Frame FramingFault → Result Part FramingFault
handed (Ok f) = Ok (part_of f)
handed (Err e) = Err e
