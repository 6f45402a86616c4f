-- One tenant more, or its fault.
use Rattle.std.proofs.Common.{◌≡◌, ℕ, ◌+◌, ◌-◌, List, [], sym, ap, ◌∙◌, ap₂, arith}
use Rattle.std.proofs.lemmas.Result.{err_from_is_err_and}
use Rattle.sheet.specs.declared.fields.Due.TheVariants.{NextTenant}
use Rattle.sheet.specs.Framing.{input, place_after}
use Rattle.sheet.specs.Fields.{field_of, field_due}
use Rattle.sheet.specs.Reading.{read_tenants, tenants_text, text_and_place}
use Rattle.sheet.proofs.TenantSteps.{tenants_more, tenant_cut, tenant_fault, one_more, tenant_due}
use Rattle.sheet.proofs.reading.read_tenants.Goals as goal

pub add-requires-clause-good : goal.add-requires-clause-good
add-requires-clause-good c =
    let reader = c.loop-number.reader in
    let due = c.in_ok-field.ensures in
    (tenant_due c.args.size (input reader) reader.place c.loop-number.lowest reader.octets (omega arith) (field_of c.in_ok-field.field) (sym due.value)).1

pub returns-in_err-field-clause-value : goal.returns-in_err-field-clause-value
returns-in_err-field-clause-value c =
    let size = c.args.size in
    let bytes = input c.args.reader.now in
    let place = c.loop-number.reader.place in
    let before = c.loop-number.invariant in
    let due = ap (λ (b : List ℕ). field_due (NextTenant c.loop-number.lowest) size b place) (sym before.0) ∙ sym c.in_err-field.ensures.value in
    let p = err_from_is_err_and c.from_residual.result c.from_residual.ensures.1 in
    rw (p.1, p.2) (λ rows.
    ap text_and_place (sym (before.3 rows ∙ tenant_cut size.tenants c.loop-number.number size bytes (record { place = place; lowest = c.loop-number.lowest; text = tenants_text rows c.loop-number.tenants }) _ (omega arith) due)))

pub returns-in_err-add-clause-value : goal.returns-in_err-add-clause-value
returns-in_err-add-clause-value c =
    let size = c.args.size in
    let bytes = input c.args.reader.now in
    let place = c.loop-number.reader.place in
    let before = c.loop-number.invariant in
    let field = field_of c.in_ok-field.field in
    let due = ap (λ (b : List ℕ). field_due (NextTenant c.loop-number.lowest) size b place) (sym before.0) ∙ sym c.in_ok-field.ensures.value in
    let p = err_from_is_err_and c.from_residual-in_err-add.result c.from_residual-in_err-add.ensures.1 in
    rw (p.1, p.2) (λ rows.
    ap text_and_place (sym (before.3 rows ∙ tenant_fault size.tenants c.loop-number.number size bytes (record { place = place; lowest = c.loop-number.lowest; text = tenants_text rows c.loop-number.tenants }) field _ (omega arith) due
    (sym (c.in_err-add.ensures.text rows)))))

pub loop-number-preserved : goal.loop-number-preserved
loop-number-preserved c =
    let size = c.args.size in
    let n = size.tenants in
    let t = c.loop-number.number in
    let bytes = input c.args.reader.now in
    let reader = c.loop-number.reader in
    let place = reader.place in
    let before = c.loop-number.invariant in
    let read = c.in_ok-field.ensures in
    let field = field_of c.in_ok-field.field in
    let added = c.in_ok-add.ensures in
    let due = ap (λ (b : List ℕ). field_due (NextTenant c.loop-number.lowest) size b place) (sym before.0) ∙ sym read.value in
    let next : c.field.new.self.place ≡ place_after bytes place = read.place ∙ ap (λ (b : List ℕ). place_after b place) before.0 in
    let known = tenant_due size (input reader) place c.loop-number.lowest reader.octets (omega arith) field (sym read.value) in
    let more = one_more (tenants_text [] c.loop-number.tenants) (tenants_text [] c.add.new.self) field.at field.content field.kind c.loop-number.lowest known.0 (sym (added.text [])) in (
      read.input ∙ before.0,
      added.classes ∙ before.1,
      more ∙ ap (λ (k : ℕ). k + 1) before.2,
      λ rows.
          before.3 rows
          ∙ tenants_more n t size bytes (record { place = place; lowest = c.loop-number.lowest; text = tenants_text rows c.loop-number.tenants }) field (tenants_text rows c.add.new.self) (omega arith) due (sym (added.text rows))
          ∙ ap₂ (λ (p k : ℕ). read_tenants (n - (t + 1)) size bytes (record { place = p; lowest = k; text = tenants_text rows c.add.new.self })) (sym next) (grind (arith, c.kind.ensures)),
    )
