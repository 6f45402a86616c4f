-- The content of a row is that of the tenant of its number.
use Rattle.std.proofs.Common.{◌≡◌, ℕ, ◌<◌, List, [], ◌++◌, map, length, get_or, sym, ap, ◌∙◌, arith}
use Rattle.std.proofs.lemmas.List.{get_or-map, length-map}
use Rattle.policy.specs.Rosters.{held as tenants}
use Rattle.sheet.specs.Sheets.{written}
use Rattle.sheet.specs.Encoding.{held}
use Rattle.sheet.proofs.writing.RosterCommonRows.put.Goals as goal

module _ {T R : Type 0} (content : R → List ℕ) (said : T → R) (ts : List T) (n : ℕ) (t : T) (known : n < length (map content (map said ts))) where
  content_is : get_or (map content (map said ts)) n [] ≡ content (said (get_or ts n t))
  content_is =
      let short : n < length (map said ts) = omega (arith, known, length-map (map said ts) content) in
      get_or-map content (map said ts) n (said t) [] short ∙ ap content (get_or-map said ts n t (said t) (omega (arith, short, length-map ts said)))

  -- what is put is the content of the row
  row_is : (slice : List T) → slice ≡ ts → t ≡ get_or slice n t → get_or (map content (map said ts)) n [] ≡ content (said t)
  row_is slice e i = content_is ∙ ap (λ (u : T). content (said u)) (sym (i ∙ ap (λ (us : List T). get_or us n t) e))

pub put-requires : goal.put-requires
put-requires g c =
    let same = row_is g.T.Row.content g.T.Row.said (tenants c.args.self.now) c.args.number c.index-as_slice-number.result c.requires.known c.as_slice.result.now c.as_slice.ensures c.index-as_slice-number.is in
    omega (arith, ap (λ (l : List ℕ). length (written g.T.Row.kind l)) same, c.requires.room)

pub returns : goal.returns
returns g c =
    let same = row_is g.T.Row.content g.T.Row.said (tenants c.args.self.now) c.args.number c.index-as_slice-number.result c.requires.known c.as_slice.result.now c.as_slice.ensures c.index-as_slice-number.is in
    c.put.ensures ∙ ap (λ (l : List ℕ). held c.args.sheet.now ++ written g.T.Row.kind l) (sym same)
