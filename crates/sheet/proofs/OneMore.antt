-- What holds of what is read so far holds with one tenant more.
use Rattle.std.proofs.Common.{◌≡◌, ℕ, suc, ◌≤◌, Bool, true, List, [], ◌∷◌, ◌++◌, length, take, Some, None, Ok, Option, sym, refl, ap, ◌∙◌, subst, append_assoc, arith}
use Rattle.std.specs.List.{flat_map}
use Rattle.std.proofs.lemmas.List.{append-nil, length_push, flat_map_more}
use Rattle.std.proofs.lemmas.Bool.{and_parts, and_from}
use Rattle.std.proofs.lemmas.Bool.Decides.{nat_tests}
use Rattle.sheet.specs.declared.fields.Due.TheVariants.{NextTenant}
use Rattle.sheet.specs.declared.fields.Kind.{Kind}
use Rattle.sheet.specs.declared.fields.Kind.TheVariants.{Counts, Worker, Ranked, Seated, Table, Quarantine}
use Rattle.sheet.specs.declared.fields.Size.{Size}
use Rattle.sheet.specs.Framing.{place_after}
use Rattle.sheet.specs.Fields.{tag_of, kind_due}
use Rattle.policy.specs.Kinds.{RankedRule, SeatedRule}
use Rattle.policy.specs.Tables.{TableRule}
use Rattle.policy.specs.declared.fault.TableFault.{TableFault}
use Rattle.sheet.specs.Sheets.{SheetText, tenants_in}
use Rattle.sheet.specs.Sheets.{ranked_content, seated_content, table_content, written, broken_law}
use Rattle.sheet.specs.Sheets.{all, good_worker, good_ranked, good_seated, good_table}
use Rattle.sheet.specs.Reading.{ranked_row, seated_row, table_row, add_ranked, add_seated, add_table, with_table, tenant_text}
use Rattle.sheet.proofs.Rows.{worker_bytes, ranked_bytes, seated_bytes, table_bytes, ranked_rows, seated_rows, table_rows}
use Rattle.sheet.proofs.WellFormed.{table_whole}
use Rattle.sheet.proofs.FieldRead.{Came}

-- the bytes of the rows of a text
abbrev pub rows_bytes : SheetText → List ℕ
rows_bytes s = worker_bytes s.workers ++ (ranked_bytes s.ranked ++ (seated_bytes s.seated ++ table_bytes s.tables))

-- one row more

pub all_push : {R : Type 0} (good : R → Bool) (rows : List R) (r : R) → all good rows ≡ true → good r ≡ true → all good (rows ++ (r ∷ [])) ≡ true
all_push good [] r h g = and_from (good r) true g refl
all_push good (x ∷ xs) r h g =
    let p = and_parts (good x) (all good xs) h in
    and_from (good x) (all good (xs ++ (r ∷ []))) p.0 (all_push good xs r p.1 g)

-- it stands last, where there is none of a later kind

last_row : {R : Type 0} (f : R → List ℕ) (rows : List R) (r : R) (before after : List ℕ) → after ≡ [] →
    before ++ (flat_map f (rows ++ (r ∷ [])) ++ after) ≡ (before ++ (flat_map f rows ++ after)) ++ f r
last_row f rows r before after e = rw (e, append-nil (flat_map f (rows ++ (r ∷ []))), append-nil (flat_map f rows)) (sym (flat_map_more f before rows r))

last_ranked : (s : SheetText) (r : RankedRule) → s.seated ≡ [] → s.tables ≡ [] → rows_bytes (add_ranked s r) ≡ rows_bytes s ++ written Ranked (ranked_content r)
last_ranked s r e d =
    last_row (λ x. written Ranked (ranked_content x)) s.ranked r (worker_bytes s.workers) (seated_bytes s.seated ++ table_bytes s.tables) (rw (e, d))

last_seated : (s : SheetText) (r : SeatedRule) → s.tables ≡ [] → rows_bytes (add_seated s r) ≡ rows_bytes s ++ written Seated (seated_content r)
last_seated s r e =
    let ws = worker_bytes s.workers in
    let rs = ranked_bytes s.ranked in
    let ts = table_bytes s.tables in
    let x = written Seated (seated_content r) in
    ap (λ l. ws ++ l) (last_row (λ y. written Seated (seated_content y)) s.seated r rs ts (rw e)) ∙ sym (append_assoc ws (rs ++ (seated_bytes s.seated ++ ts)) x)

last_table : (s : SheetText) (r : TableRule) → rows_bytes (add_table s r) ≡ rows_bytes s ++ written Table (table_content r)
last_table s r =
    let ws = worker_bytes s.workers in
    let rs = ranked_bytes s.ranked in
    let ss = seated_bytes s.seated in
    let ts = table_bytes s.tables in
    let x = written Table (table_content r) in
    ap (λ l. ws ++ (rs ++ l)) (sym (flat_map_more (λ y. written Table (table_content y)) ss s.tables r))
    ∙ ap (λ l. ws ++ l) (sym (append_assoc rs (ss ++ ts) x)) ∙ sym (append_assoc ws (rs ++ (ss ++ ts)) x)

-- what is read so far, behind the bytes of the counts: its bytes, how many rows there are, that they are good, and that none is of a later kind than the lowest tag
pub record Holds (n : Size) (bytes head : List ℕ) (tenants place lowest : ℕ) (s : SheetText) : Type 0 where
  pub so_far : take place bytes ≡ head ++ rows_bytes s
  pub worker_count : length s.workers ≡ n.workers
  pub tenant_count : tenants_in s ≡ tenants
  pub workers : all (good_worker n.tenants) s.workers ≡ true
  pub ranked : all (good_ranked n.workers) s.ranked ≡ true
  pub seated : all (good_seated n.workers) s.seated ≡ true
  pub tables : all (good_table n.workers) s.tables ≡ true
  pub no_seated : lowest ≤ 3 → s.seated ≡ []
  pub no_tables : lowest ≤ 4 → s.tables ≡ []

-- a tag that is due is not below the lowest
not_below : (low tag : ℕ) (k : Kind) → kind_due (NextTenant low) tag ≡ Some k → low ≤ tag
not_below low tag k h = grind (arith, nat_tests)

module _ (n : Size) (few : n.workers ≤ 64) (bytes head : List ℕ) (tenants at low : ℕ) (s : SheetText)
    (content : List ℕ) (h : Holds n bytes head tenants at low s) where
  abbrev place : ℕ
  place = place_after bytes at

  abbrev IsDue : Kind → Type 0
  IsDue k = Came (NextTenant low) n bytes at k content

  abbrev HoldsNext : ℕ → SheetText → Type 0
  HoldsNext lowest t = Holds n bytes head (suc tenants) place lowest t

  -- the bytes with a field more
  further : (k : Kind) (own : List ℕ) (t : SheetText) → IsDue k → rows_bytes t ≡ rows_bytes s ++ written k own → own ≡ content → take place bytes ≡ head ++ rows_bytes t
  further k own t c more same =
      sym c.bytes_are ∙ ap (λ l. l ++ written k content) h.so_far ∙ append_assoc head (rows_bytes s) (written k content)
      ∙ ap (λ l. head ++ l) (ap (λ l. rows_bytes s ++ written k l) (sym same) ∙ sym more)

  ranked_more : IsDue Ranked → HoldsNext 3 (add_ranked s (ranked_row content))
  ranked_more c =
      let r = ranked_row content in
      let read = (ranked_rows n few).reads content c.passing in
      let first = not_below low 3 Ranked c.kind_is in
      record {
        so_far = further Ranked (ranked_content r) (add_ranked s r) c (last_ranked s r (h.no_seated first) (h.no_tables (omega arith))) read.1;
        worker_count = h.worker_count;
        tenant_count = omega (arith, length_push s.ranked r, h.tenant_count);
        workers = h.workers;
        ranked = all_push (good_ranked n.workers) s.ranked r h.ranked read.0;
        seated = h.seated;
        tables = h.tables;
        no_seated = λ _. h.no_seated first;
        no_tables = λ _. h.no_tables (omega arith);
      }

  seated_more : IsDue Seated → HoldsNext 4 (add_seated s (seated_row content))
  seated_more c =
      let r = seated_row content in
      let read = (seated_rows n few).reads content c.passing in
      let first = not_below low 4 Seated c.kind_is in
      record {
        so_far = further Seated (seated_content r) (add_seated s r) c (last_seated s r (h.no_tables first)) read.1;
        worker_count = h.worker_count;
        tenant_count = omega (arith, length_push s.seated r, h.tenant_count);
        workers = h.workers;
        ranked = h.ranked;
        seated = all_push (good_seated n.workers) s.seated r h.seated read.0;
        tables = h.tables;
        no_seated = λ l. absurd (omega arith);
        no_tables = λ _. h.no_tables first;
      }

  table_more : IsDue Table → broken_law (table_row content).entries ≡ None → HoldsNext 5 (add_table s (table_row content))
  table_more c law =
      let r = table_row content in
      let read = (table_rows n).reads content c.passing in
      record {
        so_far = further Table (table_content r) (add_table s r) c (last_table s r) read.1;
        worker_count = h.worker_count;
        tenant_count = omega (arith, length_push s.tables r, h.tenant_count);
        workers = h.workers;
        ranked = h.ranked;
        seated = h.seated;
        tables = all_push (good_table n.workers) s.tables r h.tables (table_whole n.workers r read.0 law);
        no_seated = λ l. absurd (omega arith);
        no_tables = λ l. absurd (omega arith);
      }

  pub tenant_more : (k : Kind) (from : ℕ) (t : SheetText) → IsDue k → tenant_text s from content k ≡ Ok t → HoldsNext (tag_of k) t
  tenant_more Counts from t c e = let kind = c.kind_is in absurd (grind (arith, nat_tests))
  tenant_more Worker from t c e = let kind = c.kind_is in absurd (grind (arith, nat_tests))
  tenant_more Quarantine from t c e = let kind = c.kind_is in absurd (grind (arith, nat_tests))
  tenant_more Ranked from t c e = let same : add_ranked s (ranked_row content) ≡ t = cc in subst (HoldsNext 3) same (ranked_more c)
  tenant_more Seated from t c e = let same : add_seated s (seated_row content) ≡ t = cc in subst (HoldsNext 4) same (seated_more c)
  tenant_more Table from t c e = go (broken_law (table_row content).entries) refl e
    where
      go : (o : Option TableFault) → broken_law (table_row content).entries ≡ o → with_table from s (table_row content) o ≡ Ok t → HoldsNext 5 t
      go None law e = let same : add_table s (table_row content) ≡ t = cc in subst (HoldsNext 5) same (table_more c law)
      go (Some x) law e = absurd (grind arith)
