-- The search for a number that stands twice, turn by turn.
use Rattle.std.proofs.Common.{◌≡◌, ℕ, ◌-◌, ◌<◌, Bool, true, false, length, get_or, take, set, sym, refl, ◌∙◌, arith, length-set}
use Rattle.std.proofs.lemmas.List.{get_or-replicate}
use Rattle.fleet.specs.Sets.{among}
use Rattle.policy.specs.Searches.{seek_hit, seek_miss, seek_end}
use Rattle.sheet.proofs.Seen.{mark_next}
use Rattle.sheet.proofs.contents.first_repeated.Goals as goal

pub loop-place-init : goal.loop-place-init
loop-place-init c =
    let whole : length c.args.list.now - 0 ≡ length c.args.list.now = omega arith in
    (rw whole refl, (refl, λ v small. get_or-replicate 256 v false false small))

pub returns-then-seen-number : goal.returns-then-seen-number
returns-then-seen-number c =
    let l = c.args.list.now in
    let again : ℕ → Bool = λ i. among (take i l) (get_or l i 0) in
    let i = c.loop-place.place in
    let inside : i < length l = omega arith in
    let small : get_or l i 0 < 256 = omega (arith, c.type_inv.list i) in
    record { value = sym (c.loop-place.invariant.0 ∙ seek_hit (length l) i again inside (sym (c.loop-place.invariant.1.1 (get_or l i 0) small) ∙ c.if-seen-number.true)); within = omega arith }

pub loop-place-preserved : goal.loop-place-preserved
loop-place-preserved c =
    let l = c.args.list.now in
    let again : ℕ → Bool = λ i. among (take i l) (get_or l i 0) in
    let i = c.loop-place.place in
    let inside : i < length l = omega arith in
    let small : get_or l i 0 < 256 = omega (arith, c.type_inv.list i) in
    let seen = c.loop-place.seen in
    let same : length (set seen (get_or l i 0) true) ≡ 256 = length-set seen (get_or l i 0) true ∙ c.loop-place.invariant.1.0 in (
      c.loop-place.invariant.0 ∙ seek_miss (length l) i again inside (sym (c.loop-place.invariant.1.1 (get_or l i 0) small) ∙ c.if-seen-number.false),
      (same, λ v k. mark_next seen l i inside (omega arith) (λ u h. c.loop-place.invariant.1.1 u (omega arith)) v (omega arith)),
    )

pub returns : goal.returns
returns c =
    let l = c.args.list.now in
    let again : ℕ → Bool = λ i. among (take i l) (get_or l i 0) in
    record { value = sym (c.loop-place.invariant.0 ∙ seek_end (length l) c.loop-place.place again (omega arith)); within = omega arith }
