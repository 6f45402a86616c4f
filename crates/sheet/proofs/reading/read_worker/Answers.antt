-- The worker that is due is good, so its list is ranked whole.
use Rattle.std.proofs.Common.{◌≡◌, ℕ, ltb, List, get_or, drop, Ok, sym, ap, ◌∙◌, ap₂}
use Rattle.std.proofs.lemmas.Bool.{and_parts}
use Rattle.fleet.specs.Rankings.{listed}
use Rattle.sheet.specs.Framing.{input}
use Rattle.sheet.specs.Fields.{field_of}
use Rattle.sheet.specs.Sheets.{WorkerRow, is_list, good_worker}
use Rattle.sheet.specs.Reading.{worker_row, made_of}
use Rattle.sheet.proofs.DueRows.{list_wider, worker_good}
use Rattle.sheet.proofs.reading.read_worker.Goals as goal

pub returns : goal.returns
returns c =
    let size = c.args.size in
    let reader = c.args.reader.now in
    let due = c.in_ok-field.ensures in
    let field = field_of c.in_ok-field.field-0 in
    let content = field.content in
    let good = worker_good size (input reader) reader.place reader.octets field c.requires (sym due.value) in
    let fine = list_wider size.tenants 16 (drop 1 content) c.requires (and_parts (ltb (get_or content 0 0) 8) (is_list size.tenants (drop 1 content)) good).1 in
    let class : c.number.result ≡ get_or content 0 0 = c.number.ensures ∙ ap (λ (l : List ℕ). get_or l 0 0) c.content-content.ensures in
    let part : c.rest.result.now ≡ drop 1 content = c.rest.ensures ∙ ap (λ (l : List ℕ). drop 1 l) c.content-content.ensures in
    let list : listed c.ranking.result ≡ drop 1 content = c.ranking.ensures (ap (is_list 16) part ∙ fine) ∙ part in
    let row : ◌≡◌ {A = WorkerRow} (record { class = c.number.result; list = listed c.ranking.result }) (worker_row content) =
    ap₂ (λ (k : ℕ) (l : List ℕ). record { class = k; list = l }) class list in
    record {
      value = ap (λ (r : WorkerRow). Ok r) row ∙ ap (made_of worker_row) due.value;
      place = due.place;
      input = due.input;
      good = ap (good_worker size.tenants) row ∙ good;
    }
