-- The quarantine that is due is a list of workers, so it is ranked whole.
use Rattle.std.proofs.Common.{◌≡◌, ℕ, List, Ok, sym, ap, ◌∙◌}
use Rattle.fleet.specs.Rankings.{listed}
use Rattle.sheet.specs.Framing.{input}
use Rattle.sheet.specs.Fields.{field_of}
use Rattle.sheet.specs.Sheets.{is_list}
use Rattle.sheet.specs.Reading.{made_of}
use Rattle.sheet.proofs.DueRows.{list_wider, quarantine_good}
use Rattle.sheet.proofs.reading.read_quarantine.Goals as goal

pub returns-clause-value : goal.returns-clause-value
returns-clause-value c =
    let size = c.args.size in
    let reader = c.args.reader.now in
    let due = c.in_ok-field.ensures in
    let field = field_of c.in_ok-field.field-0 in
    let good = quarantine_good size (input reader) reader.place reader.octets field c.requires (sym due.value) in
    let fine = list_wider size.workers 64 field.content c.requires good in
    let list : listed c.ranking.result ≡ field.content = c.ranking.ensures (ap (is_list 64) c.content-content.ensures ∙ fine) ∙ c.content-content.ensures in
    ap (λ (l : List ℕ). Ok l) list ∙ ap (made_of (λ (l : List ℕ). l)) due.value
