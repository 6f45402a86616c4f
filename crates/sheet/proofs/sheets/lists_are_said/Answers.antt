-- The counts and each worker's list, from Said.
use Rattle.std.proofs.Common.{◌≡◌, ℕ, List, sym}
use mathlib.Core.Path.{fun_ext}
use Rattle.fleet.specs.Lists.{market}
use Rattle.fleet.specs.Market.{Market}
use Rattle.sheet.proofs.Said.{rows_length, list_said}
use Rattle.sheet.proofs.sheets.lists_are_said.Goals as goal

-- two markets are one if their counts and lists are
same_market : (a b : ℕ) (c d : ℕ) (f g : ℕ → List ℕ) → a ≡ b → c ≡ d → f ≡ g → ◌≡◌ {A = Market} (record { workers = a; tenants = c; list = f }) (record { workers = b; tenants = d; list = g })
same_market a b c d f g p q r = rw (p, q, r)

pub returns : goal.returns
returns c =
    let s = c.args.sheet.now in
    let l = s.lists in
    same_market l.workers _ l.tenants _ (market l).list _ (sym (rows_length (market l) s.tenants.seated.common.classes l.workers)) s.counted (fun_ext (list_said l s.tenants.seated.common.classes))
