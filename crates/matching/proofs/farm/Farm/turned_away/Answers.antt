-- One tenant more, from Standing: it is asked, or it has those it kept last and would choose them all.
use Rattle.std.proofs.Common.{◌≡◌, ℕ, zero, suc, ◌<◌, List, [], ◌∷◌, length, get_or, set, refl, sym, ap, ◌∙◌, subst, ap₂, arith, length-set}
use mathlib.Core.Path.{fun_ext}
use Rattle.std.proofs.lemmas.List.{get_or_default}
use Rattle.std.proofs.lemmas.Bool.{eqb-true, not-false}
use Rattle.fleet.specs.Sets.{Set, union, minus}
use Rattle.fleet.specs.Members.{members, bit}
use Rattle.fleet.specs.declared.worker_set.WorkerSet.{WorkerSet}
use Rattle.fleet.proofs.Same.{members_workers}
use Rattle.matching.specs.Entries.{place}
use Rattle.matching.specs.Staffs.{no_workers}
use Rattle.matching.specs.Settling.{Content}
use Rattle.matching.proofs.Standing.{away_more, away_kept, content_set}
use Rattle.matching.proofs.farm.Farm.turned_away.Goals as goal
use Rattle.matching.proofs.farm.Farm.turned_away.Goals.{then-ne, else-ne}

-- writing what stands there changes nothing
set_own : (sets : List WorkerSet) (t : ℕ) (d : WorkerSet) → set sets t (get_or sets t d) ≡ sets
set_own [] t d = refl
set_own (s ∷ sets) zero d = refl
set_own (s ∷ sets) (suc t) d = ap (λ (l : List WorkerSet). s ∷ l) (set_own sets t d)

pub loop-tenant-preserved : goal.loop-tenant-preserved
loop-tenant-preserved g c =
    let C = g.P.Policy.chosen c.args.self.now.policy.now in
    let laws = (g.met.P.Policy.lawful c.args.self.now.policy.now).laws in
    let x = place c.args.staffing.now.placement.places in
    let t = c.loop-tenant.tenant in
    let sets = c.loop-tenant.accepted in
    let staff = c.staff-staff.result in
    let l : t < length sets = omega (arith, c.loop-tenant.invariant.2) in
    let belongs = c.staff-staff.ensures (omega arith) in
    elim c.if-ne.branch [
      | then-ne u ↦ (
        ap (λ (s : WorkerSet). members s) u.away-is ∙ u.union-away.ensures ∙
            ap₂ union c.loop-tenant.invariant.0 (u.unchosen-out.ensures ∙ ap (λ (A : Set). minus A (C t A)) belongs) ∙
            fun_ext (away_more C x t),
        subst (Content C) (sym u.accepted-is)
            (content_set laws sets t l c.loop-tenant.invariant.1 u.minus.result (members staff) (members_workers staff)
            (u.minus.ensures ∙ ap (λ (A : Set). minus (members staff) A) u.unchosen-out.ensures)),
        ap (λ (s : List WorkerSet). length s) u.accepted-is ∙ length-set sets t u.minus.result ∙ c.loop-tenant.invariant.2,
      )
      | else-ne u ↦
          (let k = c.ne.ensures in
          let d = c.index-accepted-tenant.result in
          let same : members (get_or sets t no_workers) ≡ members staff =
          ap (λ (s : WorkerSet). members s) (get_or_default sets t no_workers d l) ∙ sym (ap bit (eqb-true staff.bits (get_or sets t d).bits (not-false _ (sym k ∙ u.if-ne.false)))) in
          let again = subst (λ (A : Set). C t A ≡ A) (same ∙ belongs) (c.loop-tenant.invariant.1 t (omega arith)) in (
            ap (λ (s : WorkerSet). members s) u.away-is ∙ c.loop-tenant.invariant.0 ∙ fun_ext (away_kept C x t again),
            subst (Content C) (sym (u.accepted-is ∙ set_own sets t d)) c.loop-tenant.invariant.1,
            ap (λ (s : List WorkerSet). length s) (u.accepted-is ∙ set_own sets t d) ∙ c.loop-tenant.invariant.2,
          ))
    ]
