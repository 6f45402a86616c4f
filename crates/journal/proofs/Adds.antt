-- Events that are added one after the other stand in the buffer in this order, and are read so.
use Rattle.std.proofs.Common.{◌≡◌, ℕ, ◌+◌, ◌*◌, ◌^◌, ◌≤◌, true, ltb, List, [], ◌∷◌, ◌++◌, length, take, drop, sym, ap, ◌∙◌, append_assoc, arith, length-append, length-drop, length-take}
use Rattle.std.specs.List.{flat_map}
use Rattle.std.proofs.lemmas.List.{append-nil, take_at}
use Rattle.std.proofs.lemmas.Bool.{and_parts, le-leb}
use Rattle.fleet.specs.declared.Event.{Event}
use Rattle.journal.specs.Events.{encode, in_range, writable}
use Rattle.journal.specs.Adding.{added}
use Rattle.journal.specs.Laws.{all_writable, added_all, JournalIsRead}
use Rattle.journal.proofs.Runs.{run_of}

-- an event that is added where there is room
module _ (used : ℕ) (e : Event) (buffer : List ℕ) (w : writable e ≡ true) (room : used + 15 ≤ length buffer) where
  abbrev behind : List ℕ
  behind = drop (used + 15) buffer

  added_is : added used e buffer ≡ take used buffer ++ (encode e ++ behind)
  added_is = rw ((and_parts (ltb e.number (2 ^ 64)) (in_range e) w).1, le-leb (used + 15) (length buffer) room)

  added_length : length (added used e buffer) ≡ length buffer
  added_length = rw (added_is, length-append (take used buffer) (encode e ++ behind), length-append (encode e) behind) (simp (length-take, length-drop) (omega arith))

  added_front : take (used + 15) (added used e buffer) ≡ take used buffer ++ encode e
  added_front =
      let front : length (take used buffer ++ encode e) ≡ used + 15 = simp (length-append, length-take) (omega arith) in
      ap (take (used + 15)) (added_is ∙ sym (append_assoc (take used buffer) (encode e) behind)) ∙ take_at (take used buffer ++ encode e) behind (used + 15) front

pub all_added : (es : List Event) (used : ℕ) (buffer : List ℕ) → all_writable es ≡ true → used + 15 * length es ≤ length buffer →
    take (used + 15 * length es) (added_all used es buffer) ≡ take used buffer ++ flat_map encode es
all_added [] used buffer w room =
    let none : used + 15 * 0 ≡ used = omega arith in
    rw (none, append-nil (take used buffer))
all_added (e ∷ es) used buffer w room =
    let parts = and_parts (writable e) (all_writable es) w in
    let sums : used + 15 * length (e ∷ es) ≡ used + 15 + 15 * length es = omega arith in
    let here : used + 15 ≤ length buffer = omega arith in
    let later : used + 15 + 15 * length es ≤ length (added used e buffer) = omega (arith, added_length used e buffer parts.0 here) in
    rw sums (all_added es (used + 15) (added used e buffer) parts.1 later)
    ∙ ap (λ (l : List ℕ). l ++ flat_map encode es) (added_front used e buffer parts.0 here) ∙ append_assoc (take used buffer) (encode e) (flat_map encode es)

pub journal_is_read : JournalIsRead
journal_is_read es buffer w room more =
    let none : 0 + 15 * length es ≡ 15 * length es = omega arith in
    let bytes : take (15 * length es) (added_all 0 es buffer) ≡ flat_map encode es = rw none at (all_added es 0 buffer w (omega arith)) in
    rw bytes (run_of es [] w more)
