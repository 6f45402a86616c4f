-- The fields handed out, written one after the other, are the bytes that were read.
use Rattle.std.proofs.Common.{◌≡◌, ℕ, zero, suc, ◌+◌, ◌-◌, ◌/◌, ◌%◌, ◌<◌, ◌≤◌, true, false, eqb, ltb, ◌⊎◌, List, [], ◌∷◌, ◌++◌, length, get_or, take, drop, sym, refl, ap, ◌∙◌, inl, inr, append_assoc, arith, length-drop, length-take, take-add}
use Rattle.std.specs.List.{flat_map}
use Rattle.std.proofs.lemmas.List.{append-nil, drop_more}
use Rattle.std.proofs.lemmas.Bool.{cases_Bool, or_parts, ltb-false}
use Rattle.sheet.specs.Framing.{field_bytes, frame_at, fields_in, place_after, cut_off, stated_length, whole_field}
use Rattle.sheet.specs.Laws.{Bytes, handed_out, reached, FieldsAreTheBytes}

pub joined_append : {X A : Type 0} (f : X → List A) (xs ys : List X) → flat_map f (xs ++ ys) ≡ flat_map f xs ++ flat_map f ys
joined_append f [] ys = refl
joined_append f (x ∷ xs) ys = ap (λ l. f x ++ l) (joined_append f xs ys) ∙ sym (append_assoc (f x) (flat_map f xs) (flat_map f ys))

-- a field whose content is all there
module _ (bytes : List ℕ) (at : ℕ) (low : get_or bytes (at + 1) 0 < 256) (all : at + 3 + stated_length bytes at ≤ length bytes) where
  content_length : length (whole_field bytes at).content ≡ stated_length bytes at
  content_length = simp (length-take, length-drop) (omega arith)

  head_bytes : drop at bytes ≡ get_or bytes at 0 ∷ get_or bytes (at + 1) 0 ∷ get_or bytes (at + 2) 0 ∷ drop (at + 3) bytes
  head_bytes =
      let two : at + 1 + 1 ≡ at + 2 = omega arith in
      let three : at + 2 + 1 ≡ at + 3 = omega arith in
      rw (drop_more bytes at 0 (omega arith), drop_more bytes (at + 1) 0 (omega arith), two, drop_more bytes (at + 2) 0 (omega arith), three)

  whole_bytes : field_bytes (whole_field bytes at) ++ [] ≡ take (3 + length (whole_field bytes at).content) (drop at bytes)
  whole_bytes =
      let size = stated_length bytes at in
      let low_byte : size % 256 ≡ get_or bytes (at + 1) 0 = omega arith in
      let high_byte : size / 256 ≡ get_or bytes (at + 2) 0 = omega arith in
      let three : 3 + size ≡ suc (suc (suc size)) = omega arith in
      rw (append-nil, content_length, low_byte, high_byte, head_bytes, three)

-- what one call hands out is what it passes over
pub next_bytes : (bytes : List ℕ) (at : ℕ) → get_or bytes (at + 1) 0 < 256 →
    take at bytes ++ flat_map field_bytes (fields_in (frame_at bytes at)) ≡ take (place_after bytes at) bytes
next_bytes bytes at low = go (cases_Bool (eqb (length bytes - at) 0)) (cases_Bool (cut_off bytes at))
  where
    go : (eqb (length bytes - at) 0 ≡ true) ⊎ (eqb (length bytes - at) 0 ≡ false) → (cut_off bytes at ≡ true) ⊎ (cut_off bytes at ≡ false) →
        take at bytes ++ flat_map field_bytes (fields_in (frame_at bytes at)) ≡ take (place_after bytes at) bytes
    go (inl e) c = rw e (append-nil (take at bytes))
    go (inr e) (inl c) = rw (e, c) (append-nil (take at bytes))
    go (inr e) (inr c) =
        let parts = or_parts (ltb (length bytes - at) 3) (ltb (length bytes - at - 3) (stated_length bytes at)) c in
        let all : at + 3 + stated_length bytes at ≤ length bytes = omega (arith, ltb-false (length bytes - at) 3 parts.0, ltb-false (length bytes - at - 3) (stated_length bytes at) parts.1) in
        let size = length (whole_field bytes at).content in
        let sums : at + (3 + size) ≡ at + 3 + size = omega arith in
        rw (e, c) (ap (λ l. take at bytes ++ l) (whole_bytes bytes at low all) ∙ sym (take-add at (3 + size) bytes) ∙ ap (λ n. take n bytes) sums)

pub fields_are_the_bytes : (bytes : List ℕ) → Bytes bytes → FieldsAreTheBytes bytes
fields_are_the_bytes bytes small calls = from calls 0
  where
    from : (calls at : ℕ) → take at bytes ++ flat_map field_bytes (handed_out calls bytes at) ≡ take (reached calls bytes at) bytes
    from zero at = append-nil (take at bytes)
    from (suc calls) at =
        let here = fields_in (frame_at bytes at) in
        let later = handed_out calls bytes (place_after bytes at) in
        ap (λ l. take at bytes ++ l) (joined_append field_bytes here later) ∙ sym (append_assoc (take at bytes) (flat_map field_bytes here) (flat_map field_bytes later))
        ∙ ap (λ l. l ++ flat_map field_bytes later) (next_bytes bytes at (small (at + 1))) ∙ from calls (place_after bytes at)
