-- Rows and their contents: a content that passes is that of a good row, and the content of a good row passes.
use Rattle.std.proofs.Common.{◌≡◌, ℕ, zero, suc, ◌+◌, ◌^◌, ◌<◌, ◌≤◌, Bool, true, ◌&&◌, eqb, ltb, leb, List, [], ◌∷◌, length, get_or, take, drop, Some, None, Option, refl, ap, ◌∙◌, arith, length-append, length-drop, take-append-drop}
use native.Mathlib.Nat.{sub-zero}
use Rattle.std.specs.List.{flat_map}
use Rattle.std.proofs.lemmas.List.{take_rest, take_at, drop_at, length-take-le, get_or_append_left, get_or-take}
use Rattle.std.proofs.lemmas.Bool.{false≢true, and_parts, and_from, leb-true, eqb-true}
use Rattle.std.proofs.lemmas.Bool.Decides.{nat_tests}
use Rattle.fleet.specs.Sets.{all_under}
use Rattle.sheet.specs.declared.fields.Kind.{Kind}
use Rattle.sheet.specs.declared.fields.Kind.TheVariants.{Counts, Worker, Ranked, Seated, Table, Quarantine}
use Rattle.sheet.specs.declared.fields.Size.{Size}
use Rattle.sheet.specs.Fields.{has_length, in_range, list_end, table_workers}
use Rattle.policy.specs.Kinds.{RankedRule, SeatedRule}
use Rattle.policy.specs.Tables.{TableRule}
use Rattle.sheet.specs.Sheets.{WorkerRow, worker_content, ranked_content, seated_content, table_content, written}
use Rattle.sheet.specs.Sheets.{is_list, good_worker, good_ranked, good_seated}
use Rattle.sheet.specs.Reading.{size_of, worker_row, ranked_row, seated_row, table_row}
use Rattle.sheet.proofs.Numbers.{short_list, under_at, at_under}
use Rattle.sheet.proofs.TableSizes.{table_found, found_table}
use Rattle.sheet.proofs.Passing.{Passes}

-- the rows of a kind: what a content says, the content of a row, and the test of rows
pub record Rows (k : Kind) (s : Size) (R : Type 0) (row : List ℕ → R) (content : R → List ℕ) (good : R → Bool) : Type 0 where
  pub reads : (c : List ℕ) → Passes k s c → (good (row c) ≡ true) × (content (row c) ≡ c)
  pub writes : (r : R) → good r ≡ true → Passes k s (content r) × (row (content r) ≡ r)

-- the fields of rows, one after the other

abbrev pub worker_bytes : List WorkerRow → List ℕ
worker_bytes rows = flat_map (λ r. written Worker (worker_content r)) rows

abbrev pub ranked_bytes : List RankedRule → List ℕ
ranked_bytes rows = flat_map (λ r. written Ranked (ranked_content r)) rows

abbrev pub seated_bytes : List SeatedRule → List ℕ
seated_bytes rows = flat_map (λ r. written Seated (seated_content r)) rows

abbrev pub table_bytes : List TableRule → List ℕ
table_bytes rows = flat_map (λ r. written Table (table_content r)) rows

-- so many workers and tenants as a sheet may have
abbrev pub good_size : Size → Bool
good_size s = (leb 1 s.workers && leb s.workers 64) && (leb 1 s.tenants && leb s.tenants 16)

pub size_few : (s : Size) → good_size s ≡ true → (s.workers ≤ 64) × (s.tenants ≤ 16)
size_few s h = grind (arith, nat_tests)

abbrev pub size_content : Size → List ℕ
size_content s = s.workers ∷ s.tenants ∷ []

pub counts_rows : (s : Size) → Rows Counts s Size size_of size_content good_size
counts_rows s = record { reads = reads; writes = writes }
  where
    reads : (c : List ℕ) → Passes Counts s c → (good_size (size_of c) ≡ true) × (size_content (size_of c) ≡ c)
    reads [] p = absurd (false≢true p.long)
    reads (x ∷ []) p = absurd (false≢true p.long)
    reads (x ∷ y ∷ []) p = (and_from (leb 1 x && leb x 64) (leb 1 y && leb y 16) (p.head 0 (omega arith)) (p.head 1 (omega arith)), refl)
    reads (x ∷ y ∷ z ∷ l) p = absurd (omega (arith, eqb-true (length (x ∷ y ∷ z ∷ l)) 2 p.long))

    writes : (r : Size) → good_size r ≡ true → Passes Counts s (size_content r) × (size_of (size_content r) ≡ r)
    writes r h = (record { long = refl; head = head; list = refl }, refl)
      where
        head : (i : ℕ) → i < 2 → in_range Counts s i (get_or (size_content r) i 0) ≡ true
        head zero l = grind (arith, nat_tests)
        head (suc zero) l = grind (arith, nat_tests)
        head (suc (suc i)) l = absurd (omega arith)

pub worker_rows : (s : Size) → s.tenants ≤ 16 → Rows Worker s WorkerRow worker_row worker_content (good_worker s.tenants)
worker_rows s few = record { reads = reads; writes = writes }
  where
    reads : (c : List ℕ) → Passes Worker s c → (good_worker s.tenants (worker_row c) ≡ true) × (worker_content (worker_row c) ≡ c)
    reads [] p = absurd (false≢true p.long)
    reads (x ∷ xs) p = (and_from (ltb x 8) (is_list s.tenants xs) (p.head 0 (omega arith)) (rw (take_rest (x ∷ xs) 1) at p.list), refl)

    writes : (r : WorkerRow) → good_worker s.tenants r ≡ true → Passes Worker s (worker_content r) × (worker_row (worker_content r) ≡ r)
    writes r h =
        let p = and_parts (ltb r.class 8) (is_list s.tenants r.list) h in
        let short = short_list s.tenants r.list p.1 in (
          record {
            long = grind (arith, nat_tests);
            head = λ i l. let e : i ≡ 0 = omega arith in rw e p.0;
            list = rw (take_rest (worker_content r) 1) p.1;
          },
          refl,
        )

pub ranked_rows : (s : Size) → s.workers ≤ 64 → Rows Ranked s RankedRule ranked_row ranked_content (good_ranked s.workers)
ranked_rows s few = record { reads = reads; writes = writes }
  where
    reads : (c : List ℕ) → Passes Ranked s c → (good_ranked s.workers (ranked_row c) ≡ true) × (ranked_content (ranked_row c) ≡ c)
    reads [] p = absurd (false≢true p.long)
    reads (x ∷ xs) p =
        let cap = p.head 0 (omega arith) in
        (and_from (leb x 64) (is_list s.workers xs) (grind (arith, nat_tests)) (rw (take_rest (x ∷ xs) 1) at p.list), refl)

    writes : (r : RankedRule) → good_ranked s.workers r ≡ true → Passes Ranked s (ranked_content r) × (ranked_row (ranked_content r) ≡ r)
    writes r h =
        let p = and_parts (leb r.cap 64) (is_list s.workers r.list) h in
        let cap = p.0 in
        let short = short_list s.workers r.list p.1 in (
          record {
            long = grind (arith, nat_tests);
            head = λ i l. let e : i ≡ 0 = omega arith in rw e (grind (arith, nat_tests));
            list = rw (take_rest (ranked_content r) 1) p.1;
          },
          refl,
        )

pub seated_rows : (s : Size) → s.workers ≤ 64 → Rows Seated s SeatedRule seated_row seated_content (good_seated s.workers)
seated_rows s few = record { reads = reads; writes = writes }
  where
    reads : (c : List ℕ) → Passes Seated s c → (good_seated s.workers (seated_row c) ≡ true) × (seated_content (seated_row c) ≡ c)
    reads [] p = absurd (false≢true p.long)
    reads (x ∷ xs) p =
        let long = p.long in
        let eight : length (take 8 xs) ≡ 8 = length-take-le 8 xs (grind (arith, nat_tests)) in
        let overall = p.head 0 (omega arith) in
        let under : all_under 65 (take 8 xs) ≡ true = at_under 65 (take 8 xs) (λ i l. caps i (omega arith)) in
        let list : is_list s.workers (drop 8 xs) ≡ true = rw (take_rest (x ∷ xs) 9) at p.list in
        (grind (arith, nat_tests), ap (λ l. x ∷ l) (take-append-drop 8 xs))
      where
        caps : (i : ℕ) → i < 8 → get_or (take 8 xs) i 0 < 65
        caps i l = let cap = p.head (suc i) (omega arith) in rw (get_or-take 8 xs i 0 l) (grind (arith, nat_tests))

    writes : (r : SeatedRule) → good_seated s.workers r ≡ true → Passes Seated s (seated_content r) × (seated_row (seated_content r) ≡ r)
    writes r h =
        let p = and_parts (leb r.overall 64) ((eqb (length r.caps) 8 && all_under 65 r.caps) && is_list s.workers r.list) h in
        let q = and_parts (eqb (length r.caps) 8 && all_under 65 r.caps) (is_list s.workers r.list) p.1 in
        let caps = and_parts (eqb (length r.caps) 8) (all_under 65 r.caps) q.0 in
        let eight = eqb-true (length r.caps) 8 caps.0 in
        let short = short_list s.workers r.list q.1 in
        let front = take_at r.caps r.list 8 eight in
        let back = drop_at r.caps r.list 8 eight in
        let long : has_length Seated (length (seated_content r)) ≡ true = rw (length-append r.caps r.list) (grind (arith, nat_tests)) in
        (record { long = long; head = head p.0 eight caps.1; list = rw (take_rest (seated_content r) 9, back) q.1 }, rw (front, back))
      where
        head : leb r.overall 64 ≡ true → length r.caps ≡ 8 → all_under 65 r.caps ≡ true →
            (i : ℕ) → i < 9 → in_range Seated s i (get_or (seated_content r) i 0) ≡ true
        head overall eight caps zero l = grind (arith, nat_tests)
        head overall eight caps (suc i) l =
            let cap = under_at 65 r.caps caps i (omega arith) in
            rw (get_or_append_left r.caps r.list 0 i (omega arith)) (grind (arith, nat_tests))

-- a table but for the laws of its entries
abbrev pub shaped : ℕ → TableRule → Bool
shaped workers r = (leb (length r.workers) 8 && is_list workers r.workers) && eqb (length r.entries) (2 ^ length r.workers)

pub table_rows : (s : Size) → Rows Table s TableRule table_row table_content (shaped s.workers)
table_rows s = record { reads = reads; writes = writes }
  where
    reads : (c : List ℕ) → Passes Table s c → (shaped s.workers (table_row c) ≡ true) × (table_content (table_row c) ≡ c)
    reads c p = (go (table_workers (length c)) refl, take-append-drop (list_end Table (length c)) c)
      where
        go : (o : Option ℕ) → table_workers (length c) ≡ o → shaped s.workers (table_row c) ≡ true
        go None e = absurd (false≢true (rw e at p.long))
        go (Some n) e =
            let found = table_found (length c) n e in
            let front = length-take-le n c (omega arith) in
            let back : length (drop n c) ≡ 2 ^ n = simp length-drop (omega arith) in
            let list : is_list s.workers (take n c) ≡ true = rw (e, sub-zero) at p.list in
            rw (e, front, back) (grind (arith, nat_tests))

    writes : (r : TableRule) → shaped s.workers r ≡ true → Passes Table s (table_content r) × (table_row (table_content r) ≡ r)
    writes r h =
        let n = length r.workers in
        let p = and_parts (leb n 8 && is_list s.workers r.workers) (eqb (length r.entries) (2 ^ n)) h in
        let q = and_parts (leb n 8) (is_list s.workers r.workers) p.0 in
        let long : length (table_content r) ≡ n + 2 ^ n = omega (arith, length-append r.workers r.entries, eqb-true (length r.entries) (2 ^ n) p.1) in
        let e : table_workers (length (table_content r)) ≡ Some n = ap table_workers long ∙ found_table n (leb-true n 8 q.0) in
        let front = take_at r.workers r.entries n refl in
        let back = drop_at r.workers r.entries n refl in
        (record { long = rw e; head = λ i l. absurd (omega arith); list = rw (e, sub-zero, front) q.1 }, rw (e, front, back))

pub quarantine_rows : (s : Size) → s.workers ≤ 64 → Rows Quarantine s (List ℕ) (λ c. c) (λ c. c) (is_list s.workers)
quarantine_rows s few = record { reads = λ c p. (rw (take_rest c 0) at p.list, refl); writes = writes }
  where
    writes : (r : List ℕ) → is_list s.workers r ≡ true → Passes Quarantine s r × (r ≡ r)
    writes r h =
        let short = short_list s.workers r h in
        (record { long = grind (arith, nat_tests); head = λ i l. absurd (omega arith); list = rw (take_rest r 0) h }, refl)
