-- What is read is well formed and is what the bytes say, and the first fault is theirs.
use Rattle.std.proofs.Common.{sym, arith}
use Rattle.std.proofs.lemmas.Result.{err_from_is_err_and}
use Rattle.fleet.specs.Lists.{market}
use Rattle.fleet.specs.Rankings.{listed}
use Rattle.sheet.specs.Framing.{input}
use Rattle.sheet.specs.Sheets.{SheetText, rows_of}
use Rattle.sheet.specs.Reading.{tenants_text}
use Rattle.sheet.specs.Texts.{text_of}
use Rattle.sheet.specs.declared.tenants.Tenants.{Tenants}
use Rattle.fleet.specs.declared.lists.Lists.{Lists}
use Rattle.sheet.proofs.ReadIsWritten.{read_is_written}
use Rattle.sheet.proofs.Whole.{stops_at_quarantine, stops_at_end, read_whole}
use Rattle.sheet.proofs.reading.read_sheet.Goals as goal

-- what the lists and the tenants say before the quarantine is read
abbrev people : Lists → Tenants → SheetText
people lists tenants = tenants_text (rows_of (market lists) tenants.seated.common.classes lists.workers) tenants

pub returns-in_err-quarantine : goal.returns-in_err-quarantine
returns-in_err-quarantine c =
    let p = err_from_is_err_and c.from_residual-in_err-quarantine.result c.from_residual-in_err-quarantine.ensures.1 in
    let read = c.in_ok-size.ensures in
    rw (p.1, p.2) (sym (stops_at_quarantine c.args.bytes.now (input c.new-reader.result) (input c.read_people.new.reader) c.in_ok-size.size (people c.in_ok-size.lists c.in_ok-size.tenants) c.read_people.new.reader.place
    c.new-reader.ensures.input read.value read.input _ c.in_err-quarantine.ensures.value))

pub returns-in_err-read_end : goal.returns-in_err-read_end
returns-in_err-read_end c =
    let p = err_from_is_err_and c.from_residual-in_err-read_end.result c.from_residual-in_err-read_end.ensures.1 in
    let read = c.in_ok-size.ensures in
    let last = c.in_ok-quarantine.ensures in
    rw (p.1, p.2) (sym (stops_at_end c.args.bytes.now (input c.new-reader.result) (input c.read_people.new.reader) c.in_ok-size.size (people c.in_ok-size.lists c.in_ok-size.tenants) c.read_people.new.reader.place
    c.new-reader.ensures.input read.value read.input (input c.read_quarantine.new.reader) (listed c.in_ok-quarantine.quarantine) c.read_quarantine.new.reader.place last.value last.place last.input _ c.in_err-read_end.ensures))

pub invariant_of-result : goal.invariant_of-result
invariant_of-result c =
    let bytes = c.args.bytes.now in
    let read = c.in_ok-size.ensures in
    let last = c.in_ok-quarantine.ensures in
    let whole = read_whole bytes (input c.new-reader.result) (input c.read_people.new.reader) c.in_ok-size.size (people c.in_ok-size.lists c.in_ok-size.tenants) c.read_people.new.reader.place
    c.new-reader.ensures.input read.value read.input (input c.read_quarantine.new.reader) (listed c.in_ok-quarantine.quarantine) c.read_quarantine.new.reader.place last.value last.place last.input c.in_ok-read_end.ensures in
    let said = text_of c.in_ok-size.lists c.in_ok-size.tenants c.in_ok-quarantine.quarantine in
    record { counted = read.counts; idle = read.idle; formed = (read_is_written bytes (λ k. omega (arith, c.type_inv.bytes k)) said whole).0 }

pub returns : goal.returns
returns c =
    let read = c.in_ok-size.ensures in
    let last = c.in_ok-quarantine.ensures in
    sym (read_whole c.args.bytes.now (input c.new-reader.result) (input c.read_people.new.reader) c.in_ok-size.size (people c.in_ok-size.lists c.in_ok-size.tenants) c.read_people.new.reader.place
    c.new-reader.ensures.input read.value read.input (input c.read_quarantine.new.reader) (listed c.in_ok-quarantine.quarantine) c.read_quarantine.new.reader.place last.value last.place last.input c.in_ok-read_end.ensures)
