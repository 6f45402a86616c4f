-- The bytes of a well-formed sheet are read and say that sheet, so sheets with the same bytes are the same.
use Rattle.std.proofs.Common.{◌≡◌, ℕ, ◌+◌, ◌≤◌, false, ltb, List, [], ◌++◌, length, Ok, sym, refl, ap, ◌∙◌, append_assoc, add-zero, arith}
use Rattle.std.proofs.lemmas.List.{append-nil}
use Rattle.std.proofs.lemmas.Bool.{le-ltb}
use Rattle.sheet.specs.declared.fields.Due.TheVariants.{First, Last}
use Rattle.sheet.specs.declared.fields.Kind.TheVariants.{Counts, Quarantine}
use Rattle.sheet.specs.declared.fields.Size.{Size}
use Rattle.sheet.specs.Framing.{place_after}
use Rattle.sheet.specs.Sheets.{SheetText, tenants_in, written, encode}
use Rattle.sheet.specs.Reading.{no_text, no_size, read_workers, read_tenants, decode}
use Rattle.sheet.specs.Laws.{WrittenIsRead, OneSheet}
use Rattle.sheet.proofs.Rows.{worker_bytes, ranked_bytes, seated_bytes, table_bytes, size_few, size_content, counts_rows, quarantine_rows}
use Rattle.sheet.proofs.WellFormed.{size_in, with_workers, Well, well_parts}
use Rattle.sheet.proofs.FieldWritten.{read_written}
use Rattle.sheet.proofs.RowsWritten.{state, rows_read, with_ranked, with_seated, with_tables, worker_turn, ranked_turn, seated_turn, table_turn}

-- each part of a sheet is read where it was written
module _ (s : SheetText) (bytes : List ℕ) (e : bytes ≡ encode s) (w : Well (size_in s) s) where
  abbrev n : Size
  n = size_in s

  few : (n.workers ≤ 64) × (n.tenants ≤ 16)
  few = size_few n w.counts

  -- the bytes from each part on
  abbrev from_quarantine : List ℕ
  from_quarantine = written Quarantine s.quarantine

  abbrev from_tables : List ℕ
  from_tables = table_bytes s.tables ++ from_quarantine

  abbrev from_seated : List ℕ
  from_seated = seated_bytes s.seated ++ from_tables

  abbrev from_ranked : List ℕ
  from_ranked = ranked_bytes s.ranked ++ from_seated

  abbrev from_workers : List ℕ
  from_workers = worker_bytes s.workers ++ from_ranked

  -- and those up to it
  abbrev to_workers : List ℕ
  to_workers = written Counts (size_content n)

  abbrev to_ranked : List ℕ
  to_ranked = to_workers ++ worker_bytes s.workers

  abbrev to_seated : List ℕ
  to_seated = to_ranked ++ ranked_bytes s.ranked

  abbrev to_tables : List ℕ
  to_tables = to_seated ++ seated_bytes s.seated

  abbrev to_quarantine : List ℕ
  to_quarantine = to_tables ++ table_bytes s.tables

  -- so many tenants are left, and they are read
  abbrev ReadsTheRest : ℕ → List ℕ → ℕ → SheetText → Type 0
  ReadsTheRest k pre low text = (next : ℕ) × (read_tenants k n bytes (state (length pre) low text) ≡ Ok (state (length to_quarantine) next (with_tables s s.tables)))

  tables_read : (low : ℕ) → low ≤ 5 → ReadsTheRest (length s.tables + 0) to_tables low (with_seated s s.seated)
  tables_read low l = let q = rows_read (table_turn n bytes s) s.tables [] to_tables from_quarantine 0 low w.tables l (e ∙ sym (simp append_assoc)) in (q.0, q.2)

  seated_read : (low : ℕ) → low ≤ 4 → ReadsTheRest (length s.seated + (length s.tables + 0)) to_seated low (with_ranked s s.ranked)
  seated_read low l =
      let q = rows_read (seated_turn n bytes few.0 s) s.seated [] to_seated from_tables (length s.tables + 0) low w.seated l (e ∙ sym (simp append_assoc)) in
      let rest = tables_read q.0 (omega (arith, q.1)) in
      (rest.0, q.2 ∙ rest.1)

  ranked_read : (low : ℕ) → low ≤ 3 → ReadsTheRest (length s.ranked + (length s.seated + (length s.tables + 0))) to_ranked low (with_workers s.workers)
  ranked_read low l =
      let q = rows_read (ranked_turn n bytes few.0 s) s.ranked [] to_ranked from_seated (length s.seated + (length s.tables + 0)) low w.ranked l e in
      let rest = seated_read q.0 (omega (arith, q.1)) in
      (rest.0, q.2 ∙ rest.1)

  tenants_read : (low : ℕ) → low ≤ 3 → ReadsTheRest n.tenants to_ranked low (with_workers s.workers)
  tenants_read low l =
      let count : length s.ranked + (length s.seated + (length s.tables + 0)) ≡ tenants_in s = omega arith in
      rw count at (ranked_read low l)

  workers_read : (next : ℕ) × (next ≤ 3)
      × (read_workers n.workers n bytes (state (length to_workers) 3 no_text) ≡ Ok (state (length to_ranked) next (with_workers s.workers)))
  workers_read =
      let q = rows_read (worker_turn n bytes few.1) s.workers [] to_workers from_ranked 0 3 w.workers (omega arith) e in
      (q.0, q.1, rw add-zero at q.2)

  decoded : decode bytes ≡ Ok s
  decoded =
      let counts = read_written First no_size bytes [] from_workers Counts (size_content n) e refl ((counts_rows no_size).writes n w.counts).0 in
      let tenants = tenants_read workers_read.0 workers_read.1 in
      let whole : bytes ≡ to_quarantine ++ from_quarantine = e ∙ sym (simp append_assoc) in
      let followed : bytes ≡ to_quarantine ++ (from_quarantine ++ []) = rw (append-nil from_quarantine) whole in
      let passing = ((quarantine_rows n few.0).writes s.quarantine w.quarantine).0 in
      let last = read_written Last n bytes to_quarantine [] Quarantine s.quarantine followed refl passing in
      let end = place_after bytes (length to_quarantine) in
      let done : ltb end (length bytes) ≡ false = le-ltb end (length bytes) (omega (arith, last.1, ap length whole)) in
      rw (counts.0, counts.1, workers_read.2, tenants.1, last.0, done)

pub written_is_read : WrittenIsRead
written_is_read s h = decoded s (encode s) refl (well_parts s h)

pub one_sheet : OneSheet
one_sheet s u h g e = let r = written_is_read s h in let t = written_is_read u g in let d = ap decode e in cc
