-- Reading the tenants one by one: what is left to read, how many there are, and that their contents are good.
use Rattle.std.proofs.Common.{◌≡◌, ℕ, suc, ◌+◌, ◌-◌, ◌^◌, ◌<◌, ◌≤◌, true, ◌&&◌, eqb, leb, List, [], ◌∷◌, ◌++◌, length, get_or, Some, None, Ok, Err, Option, Result, refl, ap, ◌∙◌, arith}
use Rattle.std.proofs.lemmas.List.{length_push}
use Rattle.std.proofs.lemmas.Bool.{and_parts, and_from}
use Rattle.std.proofs.lemmas.Bool.Decides.{nat_tests}
use Rattle.fleet.specs.Sets.{all_under}
use Rattle.policy.specs.declared.fault.TableFault.{TableFault}
use Rattle.sheet.specs.declared.faults.FieldFault.{FieldFault}
use Rattle.sheet.specs.declared.faults.SheetFault.{SheetFault}
use Rattle.sheet.specs.declared.faults.SheetFault.TheVariants as fault
use Rattle.sheet.specs.declared.fields.Due.TheVariants.{NextTenant}
use Rattle.sheet.specs.declared.fields.Kind.{Kind}
use Rattle.sheet.specs.declared.fields.Kind.TheVariants.{Counts, Worker, Ranked, Seated, Table, Quarantine}
use Rattle.sheet.specs.declared.fields.Size.{Size}
use Rattle.sheet.specs.Framing.{place_after}
use Rattle.sheet.specs.Fields.{Field, field_due, kind_due, tag_of}
use Rattle.sheet.specs.Sheets.{SheetText, tenants_in, broken_law, is_list}
use Rattle.sheet.specs.Reading.{Progress, and_then, lifted, tenant_text, with_table, read_tenants, good_tenant, ranked_row, seated_row, table_row}
use Rattle.sheet.proofs.Rows.{ranked_rows, seated_rows, table_rows}
use Rattle.sheet.proofs.FieldRead.{read_came}
use Rattle.sheet.proofs.DueRows.{list_wider}
use Rattle.sheet.proofs.Passing.{Passes}

module _ (n t : ℕ) (size : Size) (bytes : List ℕ) (d : Progress) where
  -- what is read after a tenant of this kind
  abbrev after : Kind → SheetText → Progress
  after k s = record { place = place_after bytes d.place; lowest = tag_of k; text = s }

  -- what is left to read from the next tenant on
  abbrev left_with : Result Field FieldFault → Result Progress SheetFault
  left_with r = and_then (lifted r) (λ f. and_then (tenant_text d.text f.at f.content f.kind) (λ s. read_tenants (n - (t + 1)) size bytes (after f.kind s)))

  left_is : t < n → read_tenants (n - t) size bytes d ≡ left_with (field_due (NextTenant d.lowest) size bytes d.place)
  left_is h = let e : n - t ≡ suc (n - (t + 1)) = omega arith in rw e refl

  pub tenants_more : (f : Field) (s : SheetText) → t < n → field_due (NextTenant d.lowest) size bytes d.place ≡ Ok f → tenant_text d.text f.at f.content f.kind ≡ Ok s →
      read_tenants (n - t) size bytes d ≡ read_tenants (n - (t + 1)) size bytes (after f.kind s)
  tenants_more f s h e g = left_is h ∙ ap left_with e ∙ ap (λ (r : Result SheetText SheetFault). and_then r (λ s. read_tenants (n - (t + 1)) size bytes (after f.kind s))) g

  pub tenant_cut : (f : FieldFault) → t < n → field_due (NextTenant d.lowest) size bytes d.place ≡ Err f → read_tenants (n - t) size bytes d ≡ Err (fault.Field f)
  tenant_cut f h e = left_is h ∙ ap left_with e

  pub tenant_fault : (f : Field) (e : SheetFault) → t < n → field_due (NextTenant d.lowest) size bytes d.place ≡ Ok f → tenant_text d.text f.at f.content f.kind ≡ Err e →
      read_tenants (n - t) size bytes d ≡ Err e
  tenant_fault f e h q g = left_is h ∙ ap left_with q ∙ ap (λ (r : Result SheetText SheetFault). and_then r (λ s. read_tenants (n - (t + 1)) size bytes (after f.kind s))) g

-- the tenant that was read is one more
pub one_more : (s u : SheetText) (at : ℕ) (content : List ℕ) (k : Kind) (lowest : ℕ) → kind_due (NextTenant lowest) (tag_of k) ≡ Some k → tenant_text s at content k ≡ Ok u → tenants_in u ≡ tenants_in s + 1
one_more s u at content Ranked lowest d e =
    let same : record { workers = s.workers; ranked = s.ranked ++ (ranked_row content ∷ []); seated = s.seated; tables = s.tables; quarantine = s.quarantine } ≡ u = cc in
    rw (← same) (omega (arith, length_push s.ranked (ranked_row content)))
one_more s u at content Seated lowest d e =
    let same : record { workers = s.workers; ranked = s.ranked; seated = s.seated ++ (seated_row content ∷ []); tables = s.tables; quarantine = s.quarantine } ≡ u = cc in
    rw (← same) (omega (arith, length_push s.seated (seated_row content)))
one_more s u at content Table lowest d e = go (broken_law (table_row content).entries) e
  where
    go : (o : Option TableFault) → with_table at s (table_row content) o ≡ Ok u → tenants_in u ≡ tenants_in s + 1
    go None e =
        let same : record { workers = s.workers; ranked = s.ranked; seated = s.seated; tables = s.tables ++ (table_row content ∷ []); quarantine = s.quarantine } ≡ u = cc in
        rw (← same) (omega (arith, length_push s.tables (table_row content)))
    go (Some f) e = let z : ◌≡◌ {A = ℕ} 0 1 = cc in absurd (omega arith)
one_more s u at content Counts lowest d e = absurd (grind (arith, nat_tests))
one_more s u at content Worker lowest d e = absurd (grind (arith, nat_tests))
one_more s u at content Quarantine lowest d e = absurd (grind (arith, nat_tests))

module _ (s : Size) (bytes : List ℕ) (at lowest : ℕ) (octets : (k : ℕ) → get_or bytes k 0 < 256) (few : s.workers ≤ 64) where
  pub tenant_due : (f : Field) → field_due (NextTenant lowest) s bytes at ≡ Ok f → (kind_due (NextTenant lowest) (tag_of f.kind) ≡ Some f.kind) × (good_tenant f.kind 64 f.content ≡ true)
  tenant_due f e = let c = read_came (NextTenant lowest) s bytes at f (octets (at + 1)) e in (c.kind_is, good f.kind f.content c.passing)
    where
      good : (k : Kind) (content : List ℕ) → Passes k s content → good_tenant k 64 content ≡ true
      good Ranked content p =
          let r = ranked_row content in
          let parts = and_parts (leb r.cap 64) (is_list s.workers r.list) ((ranked_rows s few).reads content p).0 in
          and_from (leb r.cap 64) (is_list 64 r.list) parts.0 (list_wider s.workers 64 r.list few parts.1)
      good Seated content p =
          let r = seated_row content in
          let caps = eqb (length r.caps) 8 && all_under 65 r.caps in
          let parts = and_parts (leb r.overall 64) (caps && is_list s.workers r.list) ((seated_rows s few).reads content p).0 in
          let more = and_parts caps (is_list s.workers r.list) parts.1 in
          and_from (leb r.overall 64) (caps && is_list 64 r.list) parts.0 (and_from caps (is_list 64 r.list) more.0 (list_wider s.workers 64 r.list few more.1))
      good Table content p =
          let r = table_row content in
          let eight = leb (length r.workers) 8 in
          let sets = eqb (length r.entries) (2 ^ length r.workers) in
          let parts = and_parts (eight && is_list s.workers r.workers) sets ((table_rows s).reads content p).0 in
          let more = and_parts eight (is_list s.workers r.workers) parts.0 in
          and_from (is_list 64 r.workers) (eight && sets) (list_wider s.workers 64 r.workers few more.1) (and_from eight sets more.0 parts.1)
      good Counts content p = refl
      good Worker content p = refl
      good Quarantine content p = refl
