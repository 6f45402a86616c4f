-- The content is the worker's class and then its list.
use Rattle.std.proofs.Common.{◌≡◌, ℕ, ◌<◌, List, [], ◌∷◌, ◌++◌, map, length, get_or, sym, ap, ◌∙◌, arith}
use Rattle.fleet.specs.Lists.{market}
use Rattle.fleet.specs.Market.{Market}
use Rattle.sheet.specs.declared.fields.Kind.TheVariants.{Worker}
use Rattle.sheet.specs.Sheets.{rows_of, written, worker_content}
use Rattle.sheet.specs.Encoding.{held}
use Rattle.sheet.proofs.WorkerRows.{contents_count, content_at}
use Rattle.sheet.proofs.writing.WorkersRows.put.Goals as goal

pub bounds-self-number : goal.bounds-self-number
bounds-self-number c =
    let w = c.args.self.now in
    let m = market w.lists.now in
    omega (arith, contents_count m w.classes.now m.workers, w.lists.now.crew, c.requires.known)

-- what is put is the content of the row
module _ (m : Market) (classes slice : List ℕ) (n : ℕ) (known : n < length (map worker_content (rows_of m classes m.workers))) (listed : slice ≡ m.list n) where
  content_is : get_or (map worker_content (rows_of m classes m.workers)) n [] ≡ get_or classes n 0 ∷ slice
  content_is = content_at m classes m.workers n (omega (arith, contents_count m classes m.workers, known)) ∙ ap (λ (l : List ℕ). get_or classes n 0 ∷ l) (sym listed)

pub field-requires : goal.field-requires
field-requires c =
    let w = c.args.self.now in
    let m = market w.lists.now in
    let same = content_is m w.classes.now c.as_slice.result.now c.args.number c.requires.known (c.as_slice.ensures ∙ c.list-list.ensures) in
    omega (arith, ap (λ (l : List ℕ). length (written Worker l)) same, c.requires.room)

pub returns : goal.returns
returns c =
    let w = c.args.self.now in
    let m = market w.lists.now in
    let same = content_is m w.classes.now c.as_slice.result.now c.args.number c.requires.known (c.as_slice.ensures ∙ c.list-list.ensures) in
    c.field.ensures ∙ ap (λ (l : List ℕ). held c.args.sheet.now ++ written Worker l) (sym same)
