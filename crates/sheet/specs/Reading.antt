-- Layer 3. What reading the bytes of a sheet gives: what it says, or the first fault.
use Rattle.std.specs.Prelude.{ℕ, zero, suc, ◌+◌, ◌^◌, Bool, true, cond, ◌&&◌, List, [], ◌∷◌, ◌++◌, length, take, drop, Some, None, Ok, Err, Option, Result, ◌==◌, nat_le, nat_lt, slice_index}
use Rattle.sheet.specs.declared.faults.FieldFault.{FieldFault}
use Rattle.sheet.specs.declared.faults.FieldFault.TheVariants.{Length, Surplus}
use Rattle.sheet.specs.declared.faults.SheetFault.{SheetFault}
use Rattle.sheet.specs.declared.faults.SheetFault.TheVariants as fault
use Rattle.sheet.specs.declared.fields.Due.TheVariants.{First, NextWorker, NextTenant, Last}
use Rattle.sheet.specs.declared.fields.Kind.{Kind}
use Rattle.sheet.specs.declared.fields.Kind.TheVariants.{Counts, Worker, Ranked, Seated, Table, Quarantine}
use Rattle.sheet.specs.declared.fields.Size.{Size}
use Rattle.fleet.specs.Market.{Market}
use Rattle.fleet.specs.Lists.{market}
use Rattle.fleet.specs.declared.lists.Lists.{Lists}
use Rattle.fleet.specs.Rankings.{listed}
use Rattle.fleet.specs.declared.ranking.Ranking.{Ranking}
use Rattle.sheet.specs.Framing.{place_after}
use Rattle.sheet.specs.Fields.{Field, field_due, list_end, tag_of}
use Rattle.sheet.specs.declared.tenants.Tenants.{Tenants}
use Rattle.sheet.specs.Sheets.{SheetText, rows_of, WorkerRow, broken_law, is_list, good_ranked, good_seated}
use Rattle.policy.specs.Kinds.{RankedRule, SeatedRule}
use Rattle.policy.specs.Ranks.{ranks}
use Rattle.policy.specs.Seats.{seats}
use Rattle.policy.specs.Entries.{tables}
use Rattle.policy.specs.Tables.{TableRule}
use Rattle.policy.specs.declared.fault.TableFault.{TableFault}
use Rattle.policy.specs.declared.fault.TableFault.TheVariants.{Workers, Entries, Outside, Broken}

-- go on with what was read, unless there was a fault
abbrev pub and_then : {X Y : Type 0} → Result X SheetFault → (X → Result Y SheetFault) → Result Y SheetFault
and_then (Ok x) f = f x
and_then (Err e) f = Err e

-- a fault of a field as one of the sheet
abbrev pub lifted : {X : Type 0} → Result X FieldFault → Result X SheetFault
lifted (Ok x) = Ok x
lifted (Err e) = Err (fault.Field e)

-- what is read so far: the offset of the next field, the lowest tag that a tenant may have, and what the fields before it say
pub record Progress : Type 0 where
  pub place : ℕ
  pub lowest : ℕ
  pub text : SheetText

-- nothing is read yet but the counts
abbrev pub no_text : SheetText
no_text = record { workers = []; ranked = []; seated = []; tables = []; quarantine = [] }

-- before the counts are read
abbrev pub no_size : Size
no_size = record { workers = 0; tenants = 0 }

-- the counts that a content says
abbrev pub size_of : List ℕ → Size
size_of content = record { workers = slice_index content 0; tenants = slice_index content 1 }

-- the rows that contents say

-- a class and a list of tenants
abbrev pub worker_row : List ℕ → WorkerRow
worker_row content = record { class = slice_index content 0; list = drop 1 content }

-- a cap and a list of workers
abbrev pub ranked_row : List ℕ → RankedRule
ranked_row content = record { cap = slice_index content 0; list = drop 1 content }

-- an overall cap, eight class caps and a list of workers
abbrev pub seated_row : List ℕ → SeatedRule
seated_row content = record { overall = slice_index content 0; caps = take 8 (drop 1 content); list = drop 9 content }

-- as many workers as the length tells, and then the entries
abbrev pub table_row : List ℕ → TableRule
table_row content = let n = list_end Table (length content) in record { workers = take n content; entries = drop n content }

-- what is made of a field that is due, unless there is a fault
abbrev pub made_of : {X : Type 0} → (List ℕ → X) → Result Field FieldFault → Result X FieldFault
made_of row (Ok f) = Ok (row f.content)
made_of row (Err e) = Err e

-- the counts, a worker and the quarantine that are due at an offset

-- the counts that are due at an offset
abbrev pub size_due : List ℕ → ℕ → Result Size FieldFault
size_due bytes at = made_of size_of (field_due First no_size bytes at)

-- the worker that is due at an offset
abbrev pub worker_due : Size → List ℕ → ℕ → Result WorkerRow FieldFault
worker_due size bytes at = made_of worker_row (field_due NextWorker size bytes at)

-- the quarantine that is due at an offset
abbrev pub quarantine_due : Size → List ℕ → ℕ → Result (List ℕ) FieldFault
quarantine_due size bytes at = made_of (λ content. content) (field_due Last size bytes at)

-- the text with one row more

-- one worker more
abbrev pub add_worker : SheetText → WorkerRow → SheetText
add_worker s r = record { workers = s.workers ++ (r ∷ []); ranked = s.ranked; seated = s.seated; tables = s.tables; quarantine = s.quarantine }

-- one ranked tenant more
abbrev pub add_ranked : SheetText → RankedRule → SheetText
add_ranked s r = record { workers = s.workers; ranked = s.ranked ++ (r ∷ []); seated = s.seated; tables = s.tables; quarantine = s.quarantine }

-- one seated tenant more
abbrev pub add_seated : SheetText → SeatedRule → SheetText
add_seated s r = record { workers = s.workers; ranked = s.ranked; seated = s.seated ++ (r ∷ []); tables = s.tables; quarantine = s.quarantine }

-- one table more
abbrev pub add_table : SheetText → TableRule → SheetText
add_table s r = record { workers = s.workers; ranked = s.ranked; seated = s.seated; tables = s.tables ++ (r ∷ []); quarantine = s.quarantine }

-- these workers in quarantine
abbrev pub with_quarantine : SheetText → List ℕ → SheetText
with_quarantine s q = record { workers = s.workers; ranked = s.ranked; seated = s.seated; tables = s.tables; quarantine = q }

-- the fault of a table of so many workers at this offset; an entry's place is that of its byte, and a wrong number of workers or entries is a wrong length
abbrev pub fault_of : ℕ → ℕ → TableFault → SheetFault
fault_of at workers (Outside z) = fault.Outside (at + 3 + workers + z)
fault_of at workers (Broken law z y) = fault.Broken at law z y
fault_of at workers Workers = fault.Field (Length at)
fault_of at workers Entries = fault.Field (Length at)

-- the text with a table, unless its entries break a law
abbrev pub with_table : ℕ → SheetText → TableRule → Option TableFault → Result SheetText SheetFault
with_table at s r None = Ok (add_table s r)
with_table at s r (Some law) = Err (fault_of at (length r.workers) law)

-- the text with the tenant that a field says
abbrev pub tenant_text : SheetText → ℕ → List ℕ → Kind → Result SheetText SheetFault
tenant_text s at content Ranked = Ok (add_ranked s (ranked_row content))
tenant_text s at content Seated = Ok (add_seated s (seated_row content))
tenant_text s at content Table = with_table at s (table_row content) (broken_law (table_row content).entries)
tenant_text s at content Counts = Ok s
tenant_text s at content Worker = Ok s
tenant_text s at content Quarantine = Ok s

-- so many workers more
abbrev pub read_workers : ℕ → Size → List ℕ → Progress → Result Progress SheetFault
read_workers zero size bytes d = Ok d
read_workers (suc k) size bytes d =
    and_then (lifted (field_due NextWorker size bytes d.place)) (λ f.
    read_workers k size bytes (record { place = place_after bytes d.place; lowest = d.lowest; text = add_worker d.text (worker_row f.content) }))

-- so many tenants more
abbrev pub read_tenants : ℕ → Size → List ℕ → Progress → Result Progress SheetFault
read_tenants zero size bytes d = Ok d
read_tenants (suc k) size bytes d =
    and_then (lifted (field_due (NextTenant d.lowest) size bytes d.place)) (λ f.
    and_then (tenant_text d.text f.at f.content f.kind) (λ s.
    read_tenants k size bytes (record { place = place_after bytes d.place; lowest = tag_of f.kind; text = s })))

-- the sheet is read, unless bytes are left
abbrev pub read_end : List ℕ → ℕ → SheetText → Result SheetText SheetFault
read_end bytes at s = cond (nat_lt at (length bytes)) (Err (fault.Field (Surplus at))) (Ok s)

-- the quarantine and the end, after the tenants
abbrev pub after_tenants : List ℕ → Size → SheetText → ℕ → Result SheetText SheetFault
after_tenants bytes size s place = and_then (lifted (field_due Last size bytes place)) (λ q. read_end bytes (place_after bytes place) (with_quarantine s q.content))

-- what the bytes of a sheet say: the counts, so many workers, so many tenants, the quarantine, and no byte more
abbrev pub decode : List ℕ → Result SheetText SheetFault
decode bytes =
    and_then (lifted (field_due First no_size bytes 0)) (λ counts.
    let size = size_of counts.content in
    and_then (read_workers size.workers size bytes (record { place = place_after bytes 0; lowest = 3; text = no_text })) (λ d.
    and_then (read_tenants size.tenants size bytes d) (λ d. after_tenants bytes size d.text d.place)))

-- a worker as the program has it
abbrev pub worker_told : Result (ℕ × Ranking 16) FieldFault → Result WorkerRow FieldFault
worker_told (Ok w) = Ok (record { class = w.0; list = listed w.1 })
worker_told (Err e) = Err e

-- what is read once the workers are, by their lists and classes and the offset of the next field
abbrev pub crew_text : Market → List ℕ → ℕ → SheetText
crew_text m classes n = record { workers = rows_of m classes n; ranked = []; seated = []; tables = []; quarantine = [] }

-- the same as the program has it: the workers that were read, or the fault
abbrev pub crew_progress : Result (Lists × List ℕ) FieldFault → ℕ → Result Progress SheetFault
crew_progress (Ok crew) place = Ok (record { place = place; lowest = 3; text = crew_text (market crew.0) crew.1 (market crew.0).workers })
crew_progress (Err e) place = Err (fault.Field e)

-- what the tenants that are read so far say, behind the workers' rows
abbrev pub tenants_text : List WorkerRow → Tenants → SheetText
tenants_text rows t = record { workers = rows; ranked = ranks t.ranked; seated = seats t.seated; tables = tables t.tables; quarantine = [] }

-- the text after a tenant was added, or the fault
abbrev pub added_text : Result (Unit {0}) SheetFault → SheetText → Result SheetText SheetFault
added_text (Ok _) s = Ok s
added_text (Err e) s = Err e

-- the tables with one more, unless its entries break a law
abbrev pub one_table : ℕ → List TableRule → TableRule → Option TableFault → Result (List TableRule) SheetFault
one_table at rows r None = Ok (rows ++ (r ∷ []))
one_table at rows r (Some law) = Err (fault_of at (length r.workers) law)

-- the tables after one was added, or the fault; the tables stay then
abbrev pub table_told : Result (Unit {0}) SheetFault → List TableRule → Result (List TableRule) SheetFault
table_told (Ok _) rows = Ok rows
table_told (Err e) rows = Err e

-- the content of a tenant's field is well formed, but for the laws of a table
abbrev pub good_tenant : Kind → ℕ → List ℕ → Bool
good_tenant Ranked workers content = good_ranked workers (ranked_row content)
good_tenant Seated workers content = good_seated workers (seated_row content)
good_tenant Table workers content = is_list workers (table_row content).workers && (nat_le (length (table_row content).workers) 8 && length (table_row content).entries == 2 ^ length (table_row content).workers)
good_tenant Counts workers content = true
good_tenant Worker workers content = true
good_tenant Quarantine workers content = true

-- what is read so far, and the offset of the next field
abbrev pub text_and_place : Result Progress SheetFault → Result (SheetText × ℕ) SheetFault
text_and_place (Ok d) = Ok (d.text, d.place)
text_and_place (Err e) = Err e

-- the same as the program has it, once the tenants are read
abbrev pub tenants_read : List WorkerRow → Result Tenants SheetFault → ℕ → Result (SheetText × ℕ) SheetFault
tenants_read rows (Ok t) place = Ok (tenants_text rows t, place)
tenants_read rows (Err e) place = Err e

-- before the tenants are read
abbrev pub rows_text : List WorkerRow → SheetText
rows_text rows = record { workers = rows; ranked = []; seated = []; tables = []; quarantine = [] }

-- the quarantine as the program has it
abbrev pub quarantine_told : Result (Ranking 64) FieldFault → Result (List ℕ) FieldFault
quarantine_told (Ok q) = Ok (listed q)
quarantine_told (Err e) = Err e

-- the fault of bytes behind the last field, if there are any
abbrev pub end_due : List ℕ → ℕ → Option FieldFault
end_due bytes at = cond (nat_lt at (length bytes)) (Some (Surplus at)) None

-- the fault that the program found there
abbrev pub end_told : Result (Unit {0}) FieldFault → Option FieldFault
end_told (Ok _) = None
end_told (Err e) = Some e
