-- One worker more, from Standing; the iterator gives each of them once.
use Rattle.std.proofs.Common.{◌≡◌, ◌+◌, cond, not, eqb, get_or, sym, ap, ◌∙◌, arith}
use Rattle.std.proofs.lemmas.Bool.{and_parts}
use Rattle.fleet.specs.Sets.{Set}
use Rattle.fleet.specs.Members.{coming, members}
use Rattle.fleet.proofs.Sizes.{same_at}
use Rattle.fleet.proofs.Same.{members_workers}
use Rattle.fleet.proofs.Sound.{lists_sound}
use Rattle.fleet.proofs.Rising.{given_member, given_none}
use Rattle.matching.specs.Entries.{tabulate}
use Rattle.matching.proofs.Standing.{closed_more, closed_all, still_open}
use Rattle.matching.proofs.farm.Farm.close.Goals as goal

pub close_one-requires : goal.close_one-requires
close_one-requires g c =
    let inv = c.loop-w.invariant.2 in
    let old = c.args.closed.now in
    let all = coming c.into_iter-w-iterator.result in
    let rest = coming c.loop-w.w-iterator in
    let w = c.in-Some.w in
    let (in_rest, small) = given_member rest (coming c.next.new.self) w c.in-Some.ensures.steps in
    let asked : all ≡ members c.args.away = ap coming c.into_iter-w-iterator.ensures.into_iter_gives ∙ c.iter-w-items.ensures in
    let room = c.requires.open w (sym (same_at asked w) ∙ inv.3 w in_rest) in
    record {
      known = small;
      few = omega (arith, still_open old c.loop-w.closed all rest w inv.1 in_rest, (lists_sound c.args.self.now.lists.now).short_lists w);
      standing = inv.2;
    }

pub loop-w-preserved : goal.loop-w-preserved
loop-w-preserved g c =
    let inv = c.loop-w.invariant.2 in
    let old = c.args.closed.now in
    let closed = c.loop-w.closed in
    let all = coming c.into_iter-w-iterator.result in
    let rest = coming c.loop-w.w-iterator in
    let next = coming c.next.new.self in
    let w = c.in-Some.w in
    let steps = c.in-Some.ensures.steps in
    let (in_rest, small) = given_member rest next w steps in (
      tt,
      tt,
      (
        c.close_one.array_long,
        λ v. ap (λ l. get_or l v 0) c.close_one.ensures.closed ∙ closed_more old closed all rest next w (omega (arith, inv.0)) inv.1 in_rest (inv.3 w in_rest) steps.others v,
        c.close_one.ensures.standing,
        λ v h. inv.3 v (and_parts (rest v) (not (eqb v w)) (sym (same_at steps.others v) ∙ h)).0,
      ),
    )

pub returns : goal.returns
returns g c =
    let inv = c.loop-w.invariant.2 in
    let old = c.args.closed.now in
    let all = coming c.into_iter-w-iterator.result in
    let rest = coming c.loop-w.w-iterator in
    let asked : all ≡ members c.args.away = ap coming c.into_iter-w-iterator.ensures.into_iter_gives ∙ c.iter-w-items.ensures in
    record {
      closed = closed_all old c.loop-w.closed all inv.0 rest (given_none rest (coming c.next.new.self) (members_workers c.loop-w.w-iterator.rest) c.in-None.ensures.steps) inv.1 ∙
          ap (λ (A : Set). tabulate 64 (λ w. get_or old w 0 + cond (A w) 1 0)) asked;
      standing = inv.2;
    }
