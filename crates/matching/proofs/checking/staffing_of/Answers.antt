-- The bytes of the workers, and 255 past them.
use Rattle.std.proofs.Common.{◌≡◌, ℕ, ◌-◌, ◌≤◌, cond, ltb, List, ◌++◌, length, take, drop, replicate, ap, ◌∙◌, inl, inr, arith, length-take, get_or-take}
use mathlib.Core.Path.{fun_ext}
use Rattle.std.proofs.Math.Seq.{get_or-append_right}
use Rattle.std.proofs.lemmas.List.{get_or_append_left, drop-replicate, get_or-replicate, get_or_past, length-replicate}
use Rattle.std.proofs.lemmas.Bool.{cases_lt}
use Rattle.std.proofs.lemmas.Bool.Decides.{nat_tests}
use Rattle.matching.specs.declared.placement.Placement.{Placement}
use Rattle.matching.specs.Entries.{place}
use Rattle.matching.proofs.checking.staffing_of.Goals as goal

-- a byte of the first n, or 255
first_bytes : (bytes : List ℕ) (n k v : ℕ) → n ≤ length bytes → place (take n bytes ++ replicate k 255) v ≡ cond (ltb v n) (place bytes v) 255
first_bytes bytes n k v h = elim (cases_lt v n) [
  | inl q ↦ get_or_append_left (take n bytes) (replicate k 255) 255 v (omega (arith, length-take n bytes)) ∙ get_or-take n bytes v 255 q ∙ grind (arith, nat_tests)
  | inr q ↦ get_or-append_right (take n bytes) (replicate k 255) v 255 (omega (arith, length-take n bytes)) ∙ past (v - length (take n bytes)) ∙ grind (arith, nat_tests)
]
  where
    past : (i : ℕ) → place (replicate k 255) i ≡ 255
    past i = elim (cases_lt i k) [
      | inl q ↦ get_or-replicate k i 255 255 q
      | inr q ↦ get_or_past (replicate k 255) i 255 (omega (arith, length-replicate {A = ℕ} k 255))
    ]

pub returns : goal.returns
returns c =
    let n = c.workers-workers.result in
    let bytes = c.args.places.now in
    ap (λ (p : Placement). place p.places) c.new.ensures ∙ ap (λ (l : List ℕ). place (l ++ drop n (replicate 64 255))) c.copy_from_slice.ensures.after ∙
    fun_ext (λ v. ap (λ (l : List ℕ). place (take n bytes ++ l) v) (drop-replicate n 64 255) ∙
    first_bytes bytes n (64 - n) v (omega (arith, c.told-places, c.workers-workers.ensures.value, c.workers-workers.ensures.sound.few_workers)) ∙
    ap (λ (i : ℕ). cond (ltb v i) (place bytes v) 255) c.workers-workers.ensures.value)
