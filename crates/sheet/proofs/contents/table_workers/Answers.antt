-- A content longer than 264 is no table's, and a table has no more workers than numbers.
use Rattle.std.proofs.Common.{◌≡◌, ℕ, ◌<◌, Some, None, Option, sym, refl, arith, rules, ◌∙◌}
use native.Mathlib.Nat.{pow-le-pow_right}
use Rattle.sheet.specs.Fields.{table_workers}
use Rattle.sheet.proofs.TableSizes.{table_found}
use Rattle.sheet.proofs.contents.table_workers.Goals as goal

none_long : (len : ℕ) → 264 < len → None ≡ table_workers len
none_long len h = go (table_workers len) refl
  where
    go : (o : Option ℕ) → table_workers len ≡ o → None ≡ table_workers len
    go None e = sym e
    go (Some n) e = let found = table_found len n e in absurd (omega (arith, pow-le-pow_right {n = 2} (omega arith) {i = n} {j = 8} found.0))

pub returns-in_err-ok-clause-value : goal.returns-in_err-ok-clause-value
returns-in_err-ok-clause-value c =
    let long : 264 < c.args.len = search rules in
    let none : c.from_residual.result ≡ None = search rules in
    none ∙ none_long c.args.len long

pub returns-clause-within : goal.returns-clause-within
returns-clause-within c =
    let told : Some c.in_ok-workers.workers ≡ table_workers c.args.len = search rules in
    let found = table_found c.args.len c.in_ok-workers.workers (sym told) in
    omega arith
