-- What the calls of a reader hand out, one after the other.
use Rattle.std.proofs.Common.{◌≡◌, ℕ, zero, suc, ◌+◌, ◌-◌, ◌≤◌, Bool, true, false, cond, eqb, List, [], ◌∷◌, ◌++◌, map, length, take, replicate, Some, None, Ok, Err, Option, Result, sym, refl, ap, ◌∙◌, subst, append_assoc, arith, length-append}
use Rattle.std.specs.List.{flat_map}
use Rattle.std.proofs.lemmas.List.{append-nil, take_all}
use Rattle.std.proofs.lemmas.Bool.{and_parts, and_from, eqb-true, eq-eqb}
use Rattle.fleet.specs.declared.Event.{Event}
use Rattle.sheet.specs.Framing.{whole_field, cut_off}
use Rattle.sheet.specs.Laws.{Bytes}
use Rattle.sheet.proofs.Parts.{joined_append}
use Rattle.journal.specs.declared.fault.JournalFault.{JournalFault}
use Rattle.journal.specs.Events.{encode, writable}
use Rattle.journal.specs.Reading.{there, event_in, event_said, event_at, past, next_place}
use Rattle.journal.specs.Laws.{all_writable, handed, at_end, answers, reached, event_of_answer, events_read, ReadingLaw}
use Rattle.journal.proofs.OneEvent.{added_is_read, read_came}

-- the events of one answer can be held, and their bytes are those passed over
module _ (bytes : List ℕ) (small : Bytes bytes) where
  answer_held : (at : ℕ) (more : List Event) → all_writable more ≡ true → all_writable (event_of_answer (event_at bytes at) ++ more) ≡ true
  answer_held at more m = by (event_at bytes at) refl
    where
      by : (a : Result (Option Event) JournalFault) → event_at bytes at ≡ a → all_writable (event_of_answer a ++ more) ≡ true
      by (Ok (Some e)) q = and_from (writable e) (all_writable more) (read_came bytes at e small q).held m
      by (Ok None) q = m
      by (Err f) q = m

  answer_bytes : (at : ℕ) → take at bytes ++ flat_map encode (event_of_answer (event_at bytes at)) ≡ take (next_place bytes at) bytes
  answer_bytes at = by (event_at bytes at) refl
    where
      by : (a : Result (Option Event) JournalFault) → event_at bytes at ≡ a → take at bytes ++ flat_map encode (event_of_answer a) ≡ take (past at a) bytes
      by (Ok (Some e)) q = ap (λ (l : List ℕ). take at bytes ++ l) (append-nil (encode e)) ∙ (read_came bytes at e small q).bytes_are
      by (Ok None) q = append-nil (take at bytes)
      by (Err f) q = append-nil (take at bytes)

  run_held : (calls at : ℕ) → all_writable (events_read calls bytes at) ≡ true
  run_held zero at = refl
  run_held (suc calls) at = answer_held at (events_read calls bytes (next_place bytes at)) (run_held calls (next_place bytes at))

  run_bytes : (calls at : ℕ) → take at bytes ++ flat_map encode (events_read calls bytes at) ≡ take (reached calls bytes at) bytes
  run_bytes zero at = append-nil (take at bytes)
  run_bytes (suc calls) at =
      let here = event_of_answer (event_at bytes at) in
      let later = events_read calls bytes (next_place bytes at) in
      ap (λ (l : List ℕ). take at bytes ++ l) (joined_append encode here later) ∙ sym (append_assoc (take at bytes) (flat_map encode here) (flat_map encode later))
      ∙ ap (λ (l : List ℕ). l ++ flat_map encode later) (answer_bytes at) ∙ run_bytes calls (next_place bytes at)

-- where no event was handed out, the same is answered again
same_again : (bytes : List ℕ) (at : ℕ) (a : Result (Option Event) JournalFault) → event_at bytes at ≡ a → event_of_answer a ≡ [] →
    (more : ℕ) → answers more bytes at ≡ replicate more a
same_again bytes at a q none zero = refl
same_again bytes at (Ok (Some e)) q none (suc more) = absurd (grind arith)
same_again bytes at (Ok None) q none (suc more) = rw q (ap (λ (l : List (Result (Option Event) JournalFault)). Ok None ∷ l) (same_again bytes at (Ok None) q none more))
same_again bytes at (Err f) q none (suc more) = rw q (ap (λ (l : List (Result (Option Event) JournalFault)). Err f ∷ l) (same_again bytes at (Err f) q none more))

-- at the end of the bytes stands the end, and nowhere else
ends : (bytes : List ℕ) (at : ℕ) → length bytes - at ≡ 0 → event_at bytes at ≡ at_end
ends bytes at h = rw (eq-eqb (length bytes - at) 0 h)

end_is_last : (bytes : List ℕ) (at : ℕ) → event_at bytes at ≡ at_end → length bytes ≤ at
end_is_last bytes at = by (eqb (length bytes - at) 0) (cut_off bytes at) refl
  where
    no_end : (r : Result Event JournalFault) → there r ≡ at_end → length bytes ≤ at
    no_end (Ok e) h = absurd (grind arith)
    no_end (Err f) h = absurd (grind arith)

    by : (t u : Bool) → eqb (length bytes - at) 0 ≡ t → event_said (cond t (Ok None) (cond u (Err (record { at = at })) (Ok (Some (whole_field bytes at))))) ≡ at_end → length bytes ≤ at
    by true u q h = omega (arith, eqb-true (length bytes - at) 0 q)
    by false true q h = absurd (grind arith)
    by false false q h = no_end (event_in (whole_field bytes at)) h

-- bytes of events behind other bytes are read as these events, and then as the end
pub run_of : (es : List Event) (pre : List ℕ) → all_writable es ≡ true → (more : ℕ) →
    answers (length es + more) (pre ++ flat_map encode es) (length pre) ≡ map handed es ++ replicate more at_end
run_of [] pre w more =
    let none : 0 + more ≡ more = omega arith in
    rw (none, append-nil pre) (same_again pre (length pre) at_end (ends pre (length pre) (omega arith)) refl more)
run_of (e ∷ es) pre w more =
    let parts = and_parts (writable e) (all_writable es) w in
    let bytes = pre ++ (encode e ++ flat_map encode es) in
    let first : event_at bytes (length pre) ≡ handed e = added_is_read e parts.0 pre (flat_map encode es) in
    let calls : length (e ∷ es) + more ≡ suc (length es + more) = omega arith in
    let moved : bytes ≡ (pre ++ encode e) ++ flat_map encode es = sym (append_assoc pre (encode e) (flat_map encode es)) in
    let place : length pre + 15 ≡ length (pre ++ encode e) = sym (length-append pre (encode e)) in
    let rest : answers (length es + more) bytes (length pre + 15) ≡ map handed es ++ replicate more at_end =
    rw (place, moved) (run_of es (pre ++ encode e) parts.1 more) in
    rw (calls, first) (ap (λ (l : List (Result (Option Event) JournalFault)). handed e ∷ l) rest)

pub reading_law : (bytes : List ℕ) → Bytes bytes → ReadingLaw bytes
reading_law bytes small =
    record {
      held = λ calls. run_held bytes small calls 0;
      passed = λ calls. run_bytes bytes small calls 0;
      whole = λ calls h. run_bytes bytes small calls 0 ∙ take_all (reached calls bytes 0) bytes (end_is_last bytes (reached calls bytes 0) h);
      listed = λ es w h more. subst (λ (b : List ℕ). answers (length es + more) b 0 ≡ map handed es ++ replicate more at_end) h (run_of es [] w more);
      stuck = λ calls more none. same_again bytes (reached calls bytes 0) (event_at bytes (reached calls bytes 0)) refl none more;
    }
