-- The lists of a sheet are those that its rows say.
use Rattle.std.proofs.Common.{◌≡◌, ℕ, zero, suc, ◌+◌, ◌<◌, ◌≤◌, ◌⊎◌, List, [], ◌∷◌, map, length, get_or, sym, refl, ap, ◌∙◌, inl, inr, add-one, arith}
use mathlib.Core.Path.{fun_ext}
use Rattle.std.proofs.lemmas.List.{length_push, length-map, get_or_push, get_or_append_left, get_or_past, get_or-map}
use Rattle.std.proofs.lemmas.Bool.{cases_lt, cases_eq}
use Rattle.fleet.specs.Sets.{among}
use Rattle.fleet.specs.Market.{Market}
use Rattle.fleet.specs.Lists.{market}
use Rattle.fleet.specs.declared.lists.Lists.{Lists}
use Rattle.fleet.proofs.Sound.{lists_sound}
use Rattle.policy.specs.Kinds.{SeatedRule, seated_policy, by_number, walk, has_seat}
use Rattle.sheet.specs.Sheets.{WorkerRow, rows_of}
use Rattle.sheet.specs.Says.{no_row}

module _ (m : Market) (classes : List ℕ) where
  abbrev row_of : ℕ → WorkerRow
  row_of w = record { class = get_or classes w 0; list = m.list w }

  pub rows_length : (n : ℕ) → length (rows_of m classes n) ≡ n
  rows_length zero = refl
  rows_length (suc n) = length_push (rows_of m classes n) (row_of n) ∙ ap (λ (k : ℕ). k + 1) (rows_length n) ∙ add-one n

  row_at : (n w : ℕ) → w < n → get_or (rows_of m classes n) w no_row ≡ row_of w
  row_at zero w h = absurd (omega arith)
  row_at (suc n) w h = go (cases_eq w n) (row_at n w)
    where
      go : (w ≡ n) ⊎ (w ≡ n → ⊥) → (w < n → get_or (rows_of m classes n) w no_row ≡ row_of w) → get_or (rows_of m classes (suc n)) w no_row ≡ row_of w
      go (inl e) rec = rw e (get_or_push (rows_of m classes n) (row_of n) no_row n (rows_length n))
      go (inr e) rec = get_or_append_left (rows_of m classes n) (row_of n ∷ []) no_row w (omega (arith, rows_length n)) ∙ rec (omega arith)

-- each worker's list is that of its row, and there are no others
pub list_said : (l : Lists) (classes : List ℕ) (w : ℕ) → (market l).list w ≡ (get_or (rows_of (market l) classes l.workers) w no_row).list
list_said l classes w = go (cases_lt w l.workers)
  where
    rows : List WorkerRow
    rows = rows_of (market l) classes l.workers

    go : (w < l.workers) ⊎ (l.workers ≤ w) → (market l).list w ≡ (get_or (rows_of (market l) classes l.workers) w no_row).list
    go (inl h) = sym (ap (λ (r : WorkerRow). r.list) (row_at (market l) classes l.workers w h))
    go (inr h) =
        (lists_sound l).past_empty w h
        ∙ sym (ap (λ (r : WorkerRow). r.list) (get_or_past (rows_of (market l) classes l.workers) w no_row (omega (arith, rows_length (market l) classes l.workers))))

-- each worker's class is that of its row, and 0 past the last
pub class_said : (m : Market) (classes : List ℕ) (n : ℕ) → ((w : ℕ) → n ≤ w → get_or classes w 0 ≡ 0) → (w : ℕ) → get_or classes w 0 ≡ get_or (map (λ (r : WorkerRow). r.class) (rows_of m classes n)) w 0
class_said m classes n idle w = go (cases_lt w n)
  where
    go : (w < n) ⊎ (n ≤ w) → get_or classes w 0 ≡ get_or (map (λ (r : WorkerRow). r.class) (rows_of m classes n)) w 0
    go (inl h) = sym (get_or-map (λ (r : WorkerRow). r.class) (rows_of m classes n) w no_row 0 (omega (arith, rows_length m classes n)) ∙ ap (λ (r : WorkerRow). r.class) (row_at m classes n w h))
    go (inr h) =
        idle w h ∙ sym (get_or_past (map (λ (r : WorkerRow). r.class) (rows_of m classes n)) w 0 (omega (arith, rows_length m classes n, length-map (rows_of m classes n) (λ (r : WorkerRow). r.class))))

-- seated tenants choose the same where the classes are
pub seated_said : (k l : List ℕ) (rules : List SeatedRule) → ((w : ℕ) → get_or k w 0 ≡ get_or l w 0) → seated_policy k rules ≡ seated_policy l rules
seated_said k l rules e =
    ap (λ (class : ℕ → ℕ). by_number (λ r. λ Z. among (walk (has_seat class r.overall (λ c. get_or r.caps c 0)) Z [] r.list)) rules) (fun_ext e)
