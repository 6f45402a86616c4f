-- A worker below 64 can be a member; a tenant past 15 chooses nobody out of whatever set.
use Rattle.std.proofs.Common.{inl, inr, sym, ap, ◌∙◌, arith}
use Rattle.std.proofs.lemmas.Bool.{cases_lt}
use Rattle.fleet.specs.Sets.{Set, insert, with_worker}
use Rattle.fleet.specs.Market.{staff}
use Rattle.fleet.specs.Members.{members}
use Rattle.fleet.proofs.Same.{with_insert}
use Rattle.matching.specs.Farms.{placed}
use Rattle.matching.proofs.farm.Situation.kept_with.Goals as goal

pub returns : goal.returns
returns g c =
    let here = c.args.self.now in
    let p = here.farm.now.policy.now in
    let C = g.P.Policy.chosen p in
    let t = c.args.tenant in
    let w = c.args.worker in
    let kept = g.met.P.Policy.lawful p in
    c.choose.ensures ∙ elim (cases_lt t 16) [
      | inl l ↦ ap (C t) (c.with-asked.ensures ∙ ap (λ (A : Set). with_worker A w) (c.staff.ensures l) ∙ with_insert (staff (placed here) t) w c.requires)
      | inr l ↦ kept.past t (omega (arith, kept.few)) (members c.with-asked.result) ∙ sym (kept.past t (omega (arith, kept.few)) (insert (staff (placed here) t) w))
    ]
