-- The bytes that are written of a sheet.
use Rattle.std.specs.Prelude.{ℕ, List, take}
use Rattle.std.specs.List.{flat_map}
use Rattle.sheet.specs.declared.encoded.Encoded.{Encoded}
use Rattle.sheet.specs.declared.fields.Kind.{Kind}
use Rattle.sheet.specs.Sheets.{written}

-- the bytes written so far
abbrev pub held : Encoded → List ℕ
held e = take e.len e.bytes

-- a field of this kind for each content, one after the other
abbrev pub fields : Kind → List (List ℕ) → List ℕ
fields kind contents = flat_map (written kind) contents
