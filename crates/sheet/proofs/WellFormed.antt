-- A sheet is well formed exactly where its counts, its rows and its quarantine are good.
use Rattle.std.proofs.Common.{◌≡◌, ℕ, ◌^◌, Bool, true, false, not, ◌&&◌, eqb, leb, List, [], length, is_some, Some, None, Option, refl}
use Rattle.std.proofs.lemmas.Bool.{false≢true, and_parts}
use Rattle.sheet.specs.declared.fields.Size.{Size}
use Rattle.policy.specs.Tables.{TableRule}
use Rattle.policy.specs.declared.fault.TableFault.{TableFault}
use Rattle.sheet.specs.Sheets.{SheetText, WorkerRow, tenants_in, broken_law}
use Rattle.sheet.specs.Sheets.{all, is_list, good_worker, good_ranked, good_seated, good_table, well_formed}
use Rattle.sheet.proofs.Rows.{good_size, shaped}

-- how many workers and tenants a sheet has
abbrev pub size_in : SheetText → Size
size_in s = record { workers = length s.workers; tenants = tenants_in s }

-- the text of workers alone
abbrev pub with_workers : List WorkerRow → SheetText
with_workers rows = record { workers = rows; ranked = []; seated = []; tables = []; quarantine = [] }

-- what is asked of a sheet with so many workers and tenants
pub record Well (n : Size) (s : SheetText) : Type 0 where
  pub counts : good_size n ≡ true
  pub workers : all (good_worker n.tenants) s.workers ≡ true
  pub ranked : all (good_ranked n.workers) s.ranked ≡ true
  pub seated : all (good_seated n.workers) s.seated ≡ true
  pub tables : all (good_table n.workers) s.tables ≡ true
  pub quarantine : is_list n.workers s.quarantine ≡ true

pub well_parts : (s : SheetText) → well_formed s ≡ true → Well (size_in s) s
well_parts s h =
    let n = size_in s in
    let quarantine = is_list n.workers s.quarantine in
    let tables = all (good_table n.workers) s.tables && quarantine in
    let seated = all (good_seated n.workers) s.seated && tables in
    let ranked = all (good_ranked n.workers) s.ranked && seated in
    let workers = all (good_worker n.tenants) s.workers && ranked in
    let a = and_parts (good_size n) workers h in
    let b = and_parts (all (good_worker n.tenants) s.workers) ranked a.1 in
    let c = and_parts (all (good_ranked n.workers) s.ranked) seated b.1 in
    let d = and_parts (all (good_seated n.workers) s.seated) tables c.1 in
    let e = and_parts (all (good_table n.workers) s.tables) quarantine d.1 in
    record { counts = a.0; workers = b.0; ranked = c.0; seated = d.0; tables = e.0; quarantine = e.1 }

pub well_whole : (s : SheetText) → Well (size_in s) s → well_formed s ≡ true
well_whole s w = rw (w.counts, w.workers, w.ranked, w.seated, w.tables, w.quarantine)

-- a table is good exactly where it has its shape and its entries break no law

law_kept : (a b : Bool) (o : Option TableFault) → (a && (b && not (is_some o))) ≡ true → ((a && b) ≡ true) × (o ≡ None)
law_kept true true None h = (refl, refl)
law_kept true true (Some x) h = absurd (false≢true h)
law_kept true false o h = absurd (false≢true h)
law_kept false b o h = absurd (false≢true h)

keeps_law : (a b : Bool) (o : Option TableFault) → (a && b) ≡ true → o ≡ None → (a && (b && not (is_some o))) ≡ true
keeps_law a b o h e = let p = and_parts a b h in rw (p.0, p.1, e)

module _ (n : ℕ) (r : TableRule) where
  abbrev list_good : Bool
  list_good = leb (length r.workers) 8 && is_list n r.workers

  abbrev entries_good : Bool
  entries_good = eqb (length r.entries) (2 ^ length r.workers)

  pub table_parts : good_table n r ≡ true → (shaped n r ≡ true) × (broken_law r.entries ≡ None)
  table_parts h = law_kept list_good entries_good (broken_law r.entries) h

  pub table_whole : shaped n r ≡ true → broken_law r.entries ≡ None → good_table n r ≡ true
  table_whole h e = keeps_law list_good entries_good (broken_law r.entries) h e
