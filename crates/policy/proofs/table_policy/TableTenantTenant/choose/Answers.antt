-- The entry at the index of the set names the chosen.
use Rattle.std.proofs.Common.{ℕ, ◌^◌, List, length, get_or, sym, ap, ◌∙◌, ap₂, arith}
use Rattle.std.proofs.lemmas.List.{get_or-take}
use Rattle.fleet.specs.Members.{members}
use Rattle.fleet.specs.Rankings.{listed}
use Rattle.policy.specs.Tables.{index_of, named_by}
use Rattle.policy.specs.Indices.{index_below}
use Rattle.policy.proofs.Naming.{index_small}
use Rattle.policy.proofs.table_policy.TableTenantTenant.choose.Goals as goal

pub bounds-self-index : goal.bounds-self-index
bounds-self-index c =
    let ws = listed c.args.self.now.workers in
    let Z = members c.args.of in
    omega (arith, c.index_of-index.ensures, ap (λ (l : List ℕ). index_of l Z) c.as_slice-workers.ensures, index_small ws Z c.args.self.now.few)

pub returns : goal.returns
returns c =
    let ws = listed c.args.self.now.workers in
    let es = c.args.self.now.entries in
    let Z = members c.args.of in
    let same = c.as_slice-workers.ensures in
    let index = c.index_of-index.ensures ∙ ap (λ (l : List ℕ). index_of l Z) same in
    c.named.ensures ∙ ap₂ named_by same (ap (λ (i : ℕ). get_or es i 0) index ∙ sym (get_or-take (2 ^ length ws) es (index_of ws Z) 0 (index_below ws Z)))
