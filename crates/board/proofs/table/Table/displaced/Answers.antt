-- Nobody past 63 has a tenant, so all that differ were seen.
use Rattle.std.proofs.Common.{◌≡◌, ℕ, not, eqb, sym, ◌∙◌, ap₂, inl, inr, arith}
use mathlib.Core.Path.{fun_ext}
use Rattle.std.proofs.lemmas.List.{get_or_past}
use Rattle.std.proofs.lemmas.Bool.{cases_lt, lt-ltb, le-ltb}
use Rattle.matching.specs.Entries.{place}
use Rattle.board.proofs.table.Table.displaced.Goals as goal

pub returns : goal.returns
returns c =
    let t = c.args.self.now in
    let end : c.loop-worker.worker ≡ 64 = omega arith in
    fun_ext (λ w. elim (cases_lt w 64) [
      | inl h ↦ c.loop-worker.invariant w ∙ rw (end, lt-ltb w 64 h)
      | inr h ↦
          (let a : place t.current.places w ≡ 255 = get_or_past t.current.places w 255 (omega (arith, t.current.full)) in
          let b : place t.settled.places w ≡ 255 = get_or_past t.settled.places w 255 (omega (arith, t.settled.full)) in
          c.loop-worker.invariant w ∙ rw (end, le-ltb w 64 h) (sym (ap₂ (λ (i j : ℕ). not (eqb i j)) a b)))
    ])
