-- The walk goes one worker on, ends or stops, from Gathered and Knowledge.
use Rattle.std.proofs.Common.{◌≡◌, ℕ, suc, ◌+◌, ◌-◌, Some, Bor, sym, ap, ◌∙◌, arith}
use Rattle.fleet.specs.Sets.{Set}
use Rattle.fleet.specs.Lists.{market}
use Rattle.fleet.specs.Members.{members}
use Rattle.matching.specs.declared.farm.Situation.{Situation}
use Rattle.matching.specs.Farms.{placed, in_situation}
use Rattle.matching.specs.Stepping.{successor}
use Rattle.rotation.specs.Moves.{walk}
use Rattle.rotation.specs.Walking.{found_set, gathered}
use Rattle.rotation.proofs.Steps.{successor_some}
use Rattle.rotation.proofs.Gathered.{walk_none, walk_last, walk_on, walk_end}
use Rattle.rotation.proofs.Knowledge.{displacing_more}
use Rattle.rotation.proofs.walker.Walker.walk.Goals as goal

pub returns-in_err-next-clause-found : goal.returns-in_err-next-clause-found
returns-in_err-next-clause-found g c =
    let s = c.args.self.now.situation.now in
    let m = market s.farm.now.lists.now in
    let C = g.P.Policy.chosen s.farm.now.policy.now in
    let x = placed s in
    let w = c.args.worker in
    let v = c.loop-n.at in
    let A = members c.loop-n.on in
    let e = c.in_err-next.ensures.next ∙ ap (λ (b : Bor (Situation g.row.P.Denot)). in_situation g.P.Policy.chosen b.now successor v) c.loop-n.invariant.stays in
    let k : 64 - c.loop-n._n ≡ suc (63 - c.loop-n._n) = omega arith in
    ap found_set c.from_residual.ensures ∙
    sym (c.loop-n.invariant.found ∙ ap (λ (i : ℕ). gathered A (walk m C x w i v)) k ∙ walk_none m C x w (63 - c.loop-n._n) v A (sym e))

pub returns-then-is_back-clause-found : goal.returns-then-is_back-clause-found
returns-then-is_back-clause-found g c =
    let s = c.args.self.now.situation.now in
    let m = market s.farm.now.lists.now in
    let C = g.P.Policy.chosen s.farm.now.policy.now in
    let x = placed s in
    let w = c.args.worker in
    let v = c.loop-n.at in
    let u = c.in_ok-next.next in
    let A = members c.loop-n.on in
    let e = c.in_ok-next.ensures.next ∙ ap (λ (b : Bor (Situation g.row.P.Denot)). in_situation g.P.Policy.chosen b.now successor v) c.loop-n.invariant.stays in
    let k : 64 - c.loop-n._n ≡ suc (63 - c.loop-n._n) = omega arith in
    sym (c.loop-n.invariant.found ∙ ap (λ (i : ℕ). gathered A (walk m C x w i v)) k ∙
    walk_last m C x w (63 - c.loop-n._n) v A u c.loop-n.invariant.known (sym e) (sym c.is_back.ensures ∙ c.if-is_back.true) ∙ ap Some (sym c.with-on.ensures))

pub loop-n-preserved : goal.loop-n-preserved
loop-n-preserved g c =
    let s = c.args.self.now.situation.now in
    let m = market s.farm.now.lists.now in
    let C = g.P.Policy.chosen s.farm.now.policy.now in
    let x = placed s in
    let w = c.args.worker in
    let v = c.loop-n.at in
    let u = c.in_ok-next.next in
    let A = members c.loop-n.on in
    let e = c.in_ok-next.ensures.next ∙ ap (λ (b : Bor (Situation g.row.P.Denot)). in_situation g.P.Policy.chosen b.now successor v) c.loop-n.invariant.stays in
    let rest = 64 - (c.loop-n._n + 1) in
    let k : 64 - c.loop-n._n ≡ suc (64 - (c.loop-n._n + 1)) = omega arith in
    record {
      stays = c.in_ok-next.ensures.stays ∙ c.loop-n.invariant.stays;
      found = c.loop-n.invariant.found ∙ ap (λ (i : ℕ). gathered A (walk m C x w i v)) k ∙
          walk_on m C x w rest v A u c.loop-n.invariant.known (sym e) (sym c.is_back.ensures ∙ c.if-is_back.false) ∙
          ap (λ (S : Set). gathered S (walk m C x w rest u)) (sym c.with-on.ensures);
      displacing = displacing_more m C x (members c.loop-n.self.seen) (members c.successor.new.self.seen) A (members c.with-on.result) v u
          c.loop-n.invariant.displacing c.in_ok-next.ensures.more c.in_ok-next.ensures.here (sym e) c.with-on.ensures;
      known = (successor_some m C x v u (sym e)).small;
    }

pub returns-clause-found : goal.returns-clause-found
returns-clause-found g c =
    let s = c.args.self.now.situation.now in
    let m = market s.farm.now.lists.now in
    let C = g.P.Policy.chosen s.farm.now.policy.now in
    let x = placed s in
    let w = c.args.worker in
    let v = c.loop-n.at in
    let A = members c.loop-n.on in
    let k : 64 - c.loop-n._n ≡ 0 = omega arith in
    sym (c.loop-n.invariant.found ∙ ap (λ (i : ℕ). gathered A (walk m C x w i v)) k ∙ walk_end m C x w v A)
