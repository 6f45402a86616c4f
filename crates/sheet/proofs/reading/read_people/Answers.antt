-- The counts, the workers and the tenants are read, and the first fault is the sheet's.
use Rattle.std.proofs.Common.{ℕ, List, sym, refl, ap, ◌∙◌}
use Rattle.std.proofs.lemmas.Result.{err_from_is_err_and}
use Rattle.fleet.specs.Lists.{market}
use Rattle.sheet.specs.Framing.{input}
use Rattle.sheet.specs.Sheets.{rows_of}
use Rattle.sheet.specs.Reading.{size_due, tenants_text, crew_text, after_tenants}
use Rattle.sheet.proofs.Whole.{size_fault, read_to_quarantine}
use Rattle.sheet.proofs.reading.read_people.Goals as goal

pub returns-clause-value : goal.returns-clause-value
returns-clause-value c =
    let reader = c.args.reader.now in
    let bytes = input reader in
    let size = c.in_ok-size.size in
    let lists = c.in_ok-lists.lists in
    let classes = c.in_ok-lists.classes in
    let tenants = c.in_ok-tenants.tenants in
    let rows = rows_of (market lists) classes lists.workers in
    let place = c.read_tenants.new.reader.place in
    let whole = read_to_quarantine bytes bytes (input c.read_size.new.reader) (input c.read_workers.new.reader) reader.place c.read_size.new.reader.place size
    (record { place = c.read_workers.new.reader.place; lowest = 3; text = crew_text (market lists) classes lists.workers }) (tenants_text rows tenants) place
    refl c.requires c.in_ok-size.ensures.value c.in_ok-size.ensures.input c.in_ok-size.ensures.place c.in_ok-lists.ensures.value
    c.in_ok-lists.ensures.input (c.in_ok-tenants.ensures.value rows) in
    whole ∙ ap (λ (k : List ℕ). after_tenants bytes size (tenants_text (rows_of (market lists) k lists.workers) tenants) place) (sym c.in_ok-tenants.ensures.classes)

pub returns-in_err-size-clause-value : goal.returns-in_err-size-clause-value
returns-in_err-size-clause-value c =
    let reader = c.args.reader.now in
    let p = err_from_is_err_and c.from_residual.result c.from_residual.ensures.1 in
    let due = ap (λ (at : ℕ). size_due (input reader) at) (sym c.requires) ∙ sym c.in_err-size.ensures.value in
    rw (p.1, p.2) (size_fault (input reader) _ due)
