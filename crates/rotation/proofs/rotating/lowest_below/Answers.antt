-- One worker more, from LastOnes and Gathered.
use Rattle.std.proofs.Common.{◌≡◌, ℕ, false, Some, Bor, sym, ap, ◌∙◌, arith}
use Rattle.fleet.specs.Sets.{lowest, nobody}
use Rattle.fleet.specs.Lists.{market}
use Rattle.fleet.proofs.First.{lowest_least, none_below}
use Rattle.matching.specs.declared.farm.Situation.{Situation}
use Rattle.matching.specs.Farms.{placed, in_situation}
use Rattle.matching.proofs.Facts.{lists_given}
use Rattle.rotation.specs.Moves.{on_rotation, walk}
use Rattle.rotation.specs.Walking.{gathered}
use Rattle.rotation.proofs.LastOnes.{lowest_more, lowest_best}
use Rattle.rotation.proofs.Gathered.{walk_tells}
use Rattle.rotation.proofs.rotating.lowest_below.Goals as goal

pub returns-then-is_some : goal.returns-then-is_some
returns-then-is_some g c =
    let s = c.args.situation.now in
    let m = market s.farm.now.lists.now in
    let C = g.P.Policy.chosen s.farm.now.policy.now in
    let x = placed s in
    let w = c.loop-worker.worker in
    let stays = c.loop-worker.invariant.stays ∙ c.new-walker.ensures.situation in
    let found = c.walk.ensures.found ∙ ap (λ (b : Bor (Situation g.row.P.Denot)). gathered nobody (in_situation g.P.Policy.chosen b.now walk w 64 w)) stays in
    let here = sym (walk_tells m C x w c.walk.result found) ∙ sym c.is_some.ensures ∙ c.if-is_some.true in
    let none = ap (λ (b : Bor (Situation g.row.P.Denot)). lowest w (in_situation g.P.Policy.chosen b.now on_rotation)) (sym c.new-walker.ensures.situation) ∙ c.loop-worker.invariant.none in
    let e = sym (lowest_least c.args.count (on_rotation m C x) w (omega arith) here (none_below w (on_rotation m C x) none)) in
    record { lowest = e; best = λ k. lowest_best (lists_given s.farm.now.lists.now (g.met.P.Policy.lawful s.farm.now.policy.now)) x (Some w) (e ∙ ap (λ (n : ℕ). lowest n (on_rotation m C x)) k) }

pub loop-worker-preserved : goal.loop-worker-preserved
loop-worker-preserved g c =
    let s = c.loop-worker.walker.situation.now in
    let w = c.loop-worker.worker in
    let C = g.P.Policy.chosen in
    let out : in_situation C s on_rotation w ≡ false =
    sym (walk_tells (market s.farm.now.lists.now) (C s.farm.now.policy.now) (placed s) w c.walk.result c.walk.ensures.found) ∙ sym c.is_some.ensures ∙ c.if-is_some.false in
    let here = c.new-walker.result.situation.now in
    record {
      stays = c.walk.ensures.stays ∙ c.loop-worker.invariant.stays;
      none = lowest_more w (in_situation C here on_rotation) c.loop-worker.invariant.none
          (ap (λ (b : Bor (Situation g.row.P.Denot)). in_situation C b.now on_rotation w) (sym c.loop-worker.invariant.stays) ∙ out);
    }

pub returns : goal.returns
returns g c =
    let s = c.args.situation.now in
    let m = market s.farm.now.lists.now in
    let C = g.P.Policy.chosen s.farm.now.policy.now in
    let x = placed s in
    let all : c.loop-worker.worker ≡ c.args.count = omega arith in
    let none = ap (λ (b : Bor (Situation g.row.P.Denot)). lowest c.loop-worker.worker (in_situation g.P.Policy.chosen b.now on_rotation)) (sym c.new-walker.ensures.situation) ∙ c.loop-worker.invariant.none in
    let e = sym (ap (λ (n : ℕ). lowest n (on_rotation m C x)) (sym all) ∙ none) in
    record { lowest = e; best = λ k. lowest_best (lists_given s.farm.now.lists.now (g.met.P.Policy.lawful s.farm.now.policy.now)) x _ (e ∙ ap (λ (n : ℕ). lowest n (on_rotation m C x)) k) }
