-- An event that was added is read as the same event, and an event that is read is written as the bytes that it was read from.
use Rattle.std.proofs.Common.{◌≡◌, ℕ, ◌+◌, ◌-◌, ◌^◌, ◌<◌, ◌≤◌, Bool, true, false, cond, eqb, ltb, List, ◌∷◌, ◌++◌, length, take, drop, Some, None, Ok, Err, Option, Result, sym, refl, ap, ◌∙◌, subst, ⊎_elim, arith, lit<, length-append, length-take}
use Rattle.std.specs.List.{flat_map}
use Rattle.std.proofs.lemmas.List.{append-nil, get_or-take, get_or-drop, get_or_past, length-take-le, drop_at, drop-take}
use Rattle.std.proofs.lemmas.Bool.{and_parts, and_from, cases_lt, eqb-true, ltb-true, lt-ltb}
use Rattle.std.proofs.lemmas.Bool.Decides.{nat_tests}
use Rattle.fleet.specs.declared.Event.{Event}
use Rattle.sheet.specs.declared.faults.FramingFault.{FramingFault}
use Rattle.sheet.specs.Framing.{Part, field_bytes, stated_length, whole_field, cut_off, frame_at, fields_in, end_of, place_after}
use Rattle.sheet.specs.Laws.{Bytes}
use Rattle.sheet.proofs.Parts.{next_bytes}
use Rattle.sheet.proofs.FieldWritten.{frame_there}
use Rattle.journal.specs.declared.fault.JournalFault.TheVariants.{Tag, Length}
use Rattle.journal.specs.Events.{encode, content_of, event_of, in_range, writable, outside}
use Rattle.journal.specs.Reading.{ranged, event_in, there, event_said, event_at}
use Rattle.journal.specs.Laws.{handed, AddedIsRead, ReadIsWritten}
use Rattle.journal.proofs.Numbers.{event_again, content_again}

-- no number is outside its range where all are in range
none_outside : (e : Event) → in_range e ≡ true → outside e ≡ None
none_outside e h = grind (arith, nat_tests)

all_inside : (e : Event) → outside e ≡ None → in_range e ≡ true
all_inside e h = grind (arith, nat_tests)

pub added_is_read : (e : Event) → AddedIsRead e
added_is_read e w before behind =
    let parts = and_parts (ltb e.number (2 ^ 64)) (in_range e) w in
    let frame = frame_there before behind 7 (content_of e) (omega arith) in
    let same = event_again e (ltb-true e.number (2 ^ 64) parts.0) in
    ap event_said frame ∙ ap (λ (x : Event). there (ranged (length before) x (outside x))) same ∙ ap (λ (o : Option ℕ). there (ranged (length before) e o)) (none_outside e parts.1)

-- a part of bytes is bytes
bytes_part : (l : List ℕ) (n m : ℕ) → Bytes l → Bytes (take n (drop m l))
bytes_part l n m small k =
    ⊎_elim (λ (h : k < n). subst (λ (x : ℕ). x < 256) (sym (get_or-take n (drop m l) k 0 h ∙ get_or-drop m l k 0)) (small (m + k)))
    (λ (h : n ≤ k). subst (λ (x : ℕ). x < 256) (sym (get_or_past (take n (drop m l)) k 0 (simp length-take (omega arith)))) (lit< tt))
    (cases_lt k n)

-- what is known of a field that says an event
record Says (p : Part) (e : Event) : Type 0 where
  tag_is : p.tag ≡ 7
  length_is : length p.content ≡ 12
  event_is : event_of p.content ≡ e
  inside : in_range e ≡ true

says : (p : Part) (e : Event) → there (event_in p) ≡ handed e → Says p e
says p e = by (eqb p.tag 7) (eqb (length p.content) 12) (outside (event_of p.content)) refl refl refl
  where
    by : (t u : Bool) (o : Option ℕ) → eqb p.tag 7 ≡ t → eqb (length p.content) 12 ≡ u → outside (event_of p.content) ≡ o →
        there (cond t (cond u (ranged p.at (event_of p.content) o) (Err (Length p.at))) (Err (Tag p.at))) ≡ handed e → Says p e
    by false u o ht hu ho h = absurd (grind arith)
    by true false o ht hu ho h = absurd (grind arith)
    by true true (Some x) ht hu ho h = absurd (grind arith)
    by true true None ht hu ho h =
        let same : event_of p.content ≡ e = cc in
        record {
          tag_is = eqb-true p.tag 7 ht;
          length_is = eqb-true (length p.content) 12 hu;
          event_is = same;
          inside = subst (λ (x : Event). in_range x ≡ true) same (all_inside (event_of p.content) ho);
        }

-- the field that is there is the whole of one
whole_part : (bytes : List ℕ) (at : ℕ) (p : Part) → frame_at bytes at ≡ Ok (Some p) → whole_field bytes at ≡ p
whole_part bytes at p = by (eqb (length bytes - at) 0) (cut_off bytes at)
  where
    by : (t u : Bool) → ◌≡◌ {A = Result (Option Part) FramingFault} (cond t (Ok None) (cond u (Err (record { at = at })) (Ok (Some (whole_field bytes at))))) (Ok (Some p)) → whole_field bytes at ≡ p
    by true u h = absurd (grind arith)
    by false true h = absurd (grind arith)
    by false false h = cc

-- an event that was read: a journal can hold it, and its bytes are those that were passed over
pub record Came (bytes : List ℕ) (at : ℕ) (e : Event) : Type 0 where
  pub held : writable e ≡ true
  pub bytes_are : take at bytes ++ encode e ≡ take (at + 15) bytes

-- the number of an event that bytes say has 64 bits
small_number : (l : List ℕ) → Bytes l → (event_of l).number < 2 ^ 64
small_number l small = omega (arith, small 0, small 1, small 2, small 3, small 4, small 5, small 6, small 7)

pub read_came : (bytes : List ℕ) (at : ℕ) (e : Event) → Bytes bytes → event_at bytes at ≡ handed e → Came bytes at e
read_came bytes at e small = cut (frame_at bytes at) refl
  where
    cut : (r : Result (Option Part) FramingFault) → frame_at bytes at ≡ r → event_said r ≡ handed e → Came bytes at e
    cut (Err x) q h = absurd (grind arith)
    cut (Ok None) q h = absurd (grind arith)
    cut (Ok (Some p)) q h =
        let s = says p e h in
        let bytes_small : Bytes p.content = subst (λ (x : Part). Bytes x.content) (whole_part bytes at p q) (bytes_part bytes (stated_length bytes at) (at + 3) small) in
        let number_small : e.number < 2 ^ 64 = subst (λ (x : Event). x.number < 2 ^ 64) s.event_is (small_number p.content bytes_small) in
        let content_is : content_of e ≡ p.content = ap content_of (sym s.event_is) ∙ content_again p.content s.length_is bytes_small in
        let own : encode e ≡ field_bytes p = rw (s.tag_is, s.length_is) (ap (λ (l : List ℕ). 7 ∷ 12 ∷ 0 ∷ l) content_is) in
        let all : flat_map field_bytes (fields_in (frame_at bytes at)) ≡ encode e = ap (λ (r : Result (Option Part) FramingFault). flat_map field_bytes (fields_in r)) q ∙ append-nil (field_bytes p) ∙ sym own in
        let end : place_after bytes at ≡ at + 15 = ap (end_of at) q ∙ (rw s.length_is (omega arith)) in
        record {
          held = and_from (ltb e.number (2 ^ 64)) (in_range e) (lt-ltb e.number (2 ^ 64) number_small) s.inside;
          bytes_are = ap (λ (l : List ℕ). take at bytes ++ l) (sym all) ∙ next_bytes bytes at (small (at + 1)) ∙ ap (λ (n : ℕ). take n bytes) end;
        }

-- all of its bytes are there
pub came_within : (bytes : List ℕ) (at : ℕ) (e : Event) → Came bytes at e → at + 15 ≤ length bytes
came_within bytes at e c = omega (arith, simp (length-append, length-take) at (ap length c.bytes_are))

pub read_is_written : (bytes : List ℕ) (at : ℕ) → Bytes bytes → ReadIsWritten bytes at
read_is_written bytes at small e h =
    let c = read_came bytes at e small h in
    let within = came_within bytes at e c in
    (c.held, sym (drop_at (take at bytes) (encode e) at (length-take-le at bytes (omega arith))) ∙ ap (drop at) c.bytes_are ∙ drop-take at 15 bytes)
