-- A written field is read where it is due.
use Rattle.std.proofs.Common.{◌≡◌, ℕ, ◌+◌, ◌-◌, ◌<◌, false, eqb, ltb, List, ◌++◌, length, drop, Some, Ok, arith, length-append, get_or-append-add}
use lib.Seq.{get_or-append_seam, drop-append-add, take-append_seam}
use Rattle.std.proofs.lemmas.Bool.{ne_eqb, le-ltb}
use Rattle.sheet.specs.declared.fields.Due.{Due}
use Rattle.sheet.specs.declared.fields.Kind.{Kind}
use Rattle.sheet.specs.declared.fields.Size.{Size}
use Rattle.sheet.specs.Framing.{Part, field_bytes, frame_at, place_after, stated_length, whole_field}
use Rattle.sheet.specs.Fields.{tag_of, kind_due, field_due}
use Rattle.sheet.specs.Sheets.{written}
use Rattle.sheet.proofs.Passing.{Passes, longest, passes_faultless}

-- a field that stands behind other bytes
module _ (pre rest : List ℕ) (tag : ℕ) (content : List ℕ) (short : length content < 65536) where
  abbrev part : Part
  part = record { tag = tag; at = length pre; content = content }

  abbrev field : List ℕ
  field = field_bytes part ++ rest

  length_there : stated_length (pre ++ field) (length pre) ≡ length content
  length_there = rw (get_or-append-add pre field 1 0, get_or-append-add pre field 2 0) (omega arith)

  whole_there : whole_field (pre ++ field) (length pre) ≡ part
  whole_there = rw (length_there, get_or-append_seam pre tag (drop 1 field) 0, drop-append-add pre field 3, take-append_seam content rest)

  pub frame_there : frame_at (pre ++ field) (length pre) ≡ Ok (Some part)
  frame_there =
      let left = length (pre ++ field) - length pre in
      let long : left ≡ 3 + (length content + length rest) = rw (length-append pre field, length-append content rest) (omega arith) in
      let more : eqb left 0 ≡ false = ne_eqb left 0 (omega arith) in
      let enough : ltb left 3 ≡ false = le-ltb left 3 (omega arith) in
      let all_there : ltb (left - 3) (stated_length (pre ++ field) (length pre)) ≡ false = rw length_there (le-ltb (left - 3) (length content) (omega arith)) in
      rw (more, enough, all_there, whole_there)

-- a written field of a kind that is due, with a content that passes, is read, and nothing but it
pub read_written : (due : Due) (s : Size) (bytes pre rest : List ℕ) (k : Kind) (content : List ℕ) →
    bytes ≡ pre ++ (written k content ++ rest) → kind_due due (tag_of k) ≡ Some k → Passes k s content →
    (field_due due s bytes (length pre) ≡ Ok (record { kind = k; at = length pre; content = content })) × (place_after bytes (length pre) ≡ length (pre ++ written k content))
read_written due s bytes pre rest k content e d p =
    let f : Part = record { tag = tag_of k; at = length pre; content = content } in
    let frame : frame_at bytes (length pre) ≡ Ok (Some f) = rw e (frame_there pre rest (tag_of k) content (omega (arith, longest k (length content) p.long))) in
    (rw (frame, d, passes_faultless k s f p), rw (frame, length-append pre (written k content)) (omega arith))
