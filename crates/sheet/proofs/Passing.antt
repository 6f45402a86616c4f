-- A content has no fault exactly where its length, the numbers before its list, and its list are good.
use Rattle.std.proofs.Common.{◌≡◌, ℕ, ◌+◌, ◌-◌, ◌<◌, ◌≤◌, Bool, true, false, cond, not, ltb, ◌⊎◌, List, length, get_or, drop, Some, None, Option, unwrap_or, sym, refl, ◌∙◌, inl, inr, arith}
use Rattle.std.proofs.lemmas.List.{length-take, length-drop, get_or-take, get_or-drop}
use Rattle.std.proofs.lemmas.Bool.{false≢true, cases_lt, not-false, not_from_true, eqb-true, ltb-true, lt-ltb, and_parts, and_from}
use Rattle.std.proofs.lemmas.Bool.Decides.{nat_tests}
use Rattle.fleet.specs.Sets.{all_under}
use Rattle.fleet.specs.Market.{different}
use Rattle.sheet.specs.declared.faults.FieldFault.{FieldFault}
use Rattle.sheet.specs.declared.faults.FieldFault.TheVariants.{Length, Range, Repeat}
use Rattle.sheet.specs.declared.fields.Kind.{Kind}
use Rattle.sheet.specs.declared.fields.Kind.TheVariants.{Counts, Worker, Ranked, Seated, Table, Quarantine}
use Rattle.sheet.specs.declared.fields.Size.{Size}
use Rattle.sheet.specs.Framing.{Part}
use Rattle.sheet.specs.Fields.{has_length, before_list, list_end, in_range, out_of_range, list_part, repeated, table_workers, fault_at, first_of, content_fault}
use Rattle.sheet.specs.Sheets.{is_list}
use Rattle.sheet.proofs.Numbers.{seek_none, none_passes, under_at, at_under, none_repeated, repeated_none}
use Rattle.sheet.proofs.TableSizes.{table_found, table_short}

-- the numbers of a list are below the number of tenants, or of workers
abbrev pub list_bound : Kind → Size → ℕ
list_bound Counts s = 0
list_bound Worker s = s.tenants
list_bound Ranked s = s.workers
list_bound Seated s = s.workers
list_bound Table s = s.workers
list_bound Quarantine s = s.workers

-- what is asked of a content: its length, the numbers before its list, and its list
pub record Passes (k : Kind) (s : Size) (content : List ℕ) : Type 0 where
  pub long : has_length k (length content) ≡ true
  pub head : (i : ℕ) → i < before_list k → in_range k s i (get_or content i 0) ≡ true
  pub list : is_list (list_bound k s) (list_part k content) ≡ true

-- no content is longer than 264 bytes
pub longest : (k : Kind) (len : ℕ) → has_length k len ≡ true → len ≤ 264
longest Counts len h = grind (arith, nat_tests)
longest Worker len h = grind (arith, nat_tests)
longest Ranked len h = grind (arith, nat_tests)
longest Seated len h = grind (arith, nat_tests)
longest Table len h = go (table_workers len) refl
  where
    go : (o : Option ℕ) → table_workers len ≡ o → len ≤ 264
    go None e = absurd (false≢true (rw e at h))
    go (Some n) e = table_short len n e
longest Quarantine len h = grind (arith, nat_tests)

-- the list lies inside a content of a good length
list_inside : (k : Kind) (len : ℕ) → has_length k len ≡ true → (before_list k ≤ list_end k len) × (list_end k len ≤ len)
list_inside Counts len h = grind (arith, nat_tests)
list_inside Worker len h = grind (arith, nat_tests)
list_inside Ranked len h = grind (arith, nat_tests)
list_inside Seated len h = grind (arith, nat_tests)
list_inside Table len h = (omega arith, go (table_workers len) refl)
  where
    go : (o : Option ℕ) → table_workers len ≡ o → unwrap_or o 0 ≤ len
    go None e = omega arith
    go (Some n) e = omega (arith, table_found len n e)
list_inside Quarantine len h = grind (arith, nat_tests)

-- the numbers of a list have one range
list_range : (k : Kind) (s : Size) (len i v : ℕ) → has_length k len ≡ true → before_list k ≤ i → i < list_end k len →
    in_range k s i v ≡ ltb v (list_bound k s)
list_range Counts s len i v h l m = absurd (omega (arith, eqb-true len 2 h))
list_range Worker s len i v h l m = grind (arith, nat_tests)
list_range Ranked s len i v h l m = grind (arith, nat_tests)
list_range Seated s len i v h l m = grind (arith, nat_tests)
list_range Table s len i v h l m = refl
list_range Quarantine s len i v h l m = refl

module _ (k : Kind) (s : Size) (content : List ℕ) where
  abbrev start : ℕ
  start = before_list k

  abbrev stop : ℕ
  stop = list_end k (length content)

  abbrev part : List ℕ
  part = list_part k content

  abbrev InRange : ℕ → Type 0
  InRange i = in_range k s i (get_or content i 0) ≡ true

  abbrev outside : ℕ → Bool
  outside i = not (in_range k s i (get_or content i 0))

  -- no number is outside its range exactly where each is in it

  each_inside : out_of_range k s content ≡ None → (i : ℕ) → i < stop → InRange i
  each_inside none i l = not-false (in_range k s i (get_or content i 0)) (none_passes stop outside none i l)

  none_outside : ((i : ℕ) → i < stop → InRange i) → out_of_range k s content ≡ None
  none_outside each = seek_none stop outside (λ i l. not_from_true (in_range k s i (get_or content i 0)) (each i l))

  -- in a content of a good length, those of the list are in range exactly where they are below its bound
  module _ (long : has_length k (length content) ≡ true) where
    part_length : length part ≡ stop - start
    part_length = simp (length-take, length-drop) (omega (arith, list_inside k (length content) long))

    part_place : (i : ℕ) → i < length part → get_or part i 0 ≡ get_or content (start + i) 0
    part_place i h = get_or-take (stop - start) (drop start content) i 0 (omega (arith, part_length)) ∙ get_or-drop start content i 0

    same_range : (i : ℕ) → start ≤ i → i < stop → in_range k s i (get_or content i 0) ≡ ltb (get_or content i 0) (list_bound k s)
    same_range i l m = list_range k s (length content) i (get_or content i 0) long l m

    under_bound : ((i : ℕ) → i < stop → InRange i) → all_under (list_bound k s) part ≡ true
    under_bound each = at_under (list_bound k s) part place
      where
        place : (i : ℕ) → i < length part → get_or part i 0 < list_bound k s
        place i h =
            let inside : start + i < stop = omega (arith, part_length) in
            rw (part_place i h) (ltb-true (get_or content (start + i) 0) (list_bound k s) (sym (same_range (start + i) (omega arith) inside) ∙ each (start + i) inside))

    all_in_range : ((i : ℕ) → i < start → InRange i) → all_under (list_bound k s) part ≡ true → (i : ℕ) → i < stop → InRange i
    all_in_range head under i h = go (cases_lt i start)
      where
        go : (i < start) ⊎ (start ≤ i) → InRange i
        go (inl l) = head i l
        go (inr l) =
            let j = i - start in
            let there : start + j ≡ i = omega arith in
            let inside : j < length part = omega (arith, part_length) in
            let small : get_or content i 0 < list_bound k s = rw (part_place j inside, there) at (under_at (list_bound k s) part under j inside) in
            same_range i l h ∙ lt-ltb (get_or content i 0) (list_bound k s) small

-- there is no fault exactly where there is none of the three

no_fault : (b : Bool) (x y : Option FieldFault) (e : FieldFault) → cond b (first_of x y) (Some e) ≡ None → (b ≡ true) × (x ≡ None) × (y ≡ None)
no_fault true None y e h = (refl, refl, h)
no_fault true (Some f) y e h = absurd (grind arith)
no_fault false x y e h = absurd (grind arith)

none_at : (fault : ℕ → FieldFault) (offset : ℕ) (o : Option ℕ) → fault_at fault offset o ≡ None → o ≡ None
none_at fault offset None h = refl
none_at fault offset (Some i) h = cc

pub faultless_passes : (k : Kind) (s : Size) (f : Part) → content_fault k s f ≡ None → Passes k s f.content
faultless_passes k s f h =
    let c = f.content in
    let list = list_part k c in
    let behind = f.at + 3 + before_list k in
    let parts = no_fault (has_length k (length c)) (fault_at Range (f.at + 3) (out_of_range k s c)) (fault_at Repeat behind (repeated list)) (Length f.at) h in
    let apart = repeated_none list (none_at Repeat behind (repeated list) parts.2) in
    let each = each_inside k s c (none_at Range (f.at + 3) (out_of_range k s c) parts.1) in
    record {
      long = parts.0;
      head = λ i l. each i (omega (arith, list_inside k (length c) parts.0));
      list = and_from (all_under (list_bound k s) list) (different list) (under_bound k s c parts.0 each) apart;
    }

pub passes_faultless : (k : Kind) (s : Size) (f : Part) → Passes k s f.content → content_fault k s f ≡ None
passes_faultless k s f p =
    let c = f.content in
    let list = and_parts (all_under (list_bound k s) (list_part k c)) (different (list_part k c)) p.list in
    rw (p.long, none_outside k s c (all_in_range k s c p.long p.head list.0), none_repeated (list_part k c) list.1)
