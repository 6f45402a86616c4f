-- The counts that are due are in range.
use Rattle.std.proofs.Common.{rules, ◌≡◌, ℕ, ◌&&◌, leb, List, get_or, sym, ap, ◌∙◌, arith}
use Rattle.std.proofs.lemmas.Bool.{and_parts, leb-true}
use Rattle.sheet.specs.Framing.{input}
use Rattle.sheet.specs.declared.fields.Due.TheVariants.{First}
use Rattle.sheet.specs.declared.fields.Size.{Size}
use Rattle.sheet.specs.Fields.{field_of, field_due}
use Rattle.sheet.specs.Reading.{no_size}
use Rattle.sheet.proofs.DueRows.{size_good}
use Rattle.sheet.proofs.reading.read_size.Goals as goal

pub returns-clause-range : goal.returns-clause-range
returns-clause-range c =
    let reader = c.args.reader.now in
    let due = c.in_ok-field.ensures in
    let none : c.default.result ≡ no_size = search rules in
    let value = due.value ∙ ap (λ (size : Size). field_due First size (input reader) reader.place) none in
    let field = field_of c.in_ok-field.field-0 in
    let w = get_or field.content 0 0 in
    let t = get_or field.content 1 0 in
    let good = size_good no_size (input reader) reader.place reader.octets field (sym value) in
    let parts = and_parts (leb 1 w && leb w 64) (leb 1 t && leb t 16) good in
    let ws = and_parts (leb 1 w) (leb w 64) parts.0 in
    let ts = and_parts (leb 1 t) (leb t 16) parts.1 in
    let first : c.number.result ≡ w = c.number.ensures ∙ ap (λ (l : List ℕ). get_or l 0 0) c.content-content.ensures in
    let second : c.number-2.result ≡ t = c.number-2.ensures ∙ ap (λ (l : List ℕ). get_or l 1 0) c.content-content.ensures in
    let low-w = leb-true 1 w ws.0 in
    let high-w = leb-true w 64 ws.1 in
    let low-t = leb-true 1 t ts.0 in
    let high-t = leb-true t 16 ts.1 in
    (omega arith, omega arith, omega arith, omega arith)
