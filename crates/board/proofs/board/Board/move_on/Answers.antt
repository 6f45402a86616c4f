-- Turn by turn the course goes on, until no rotation is left or it is stopped; at most 480 rotations stand, so 481 turns are never made.
use Rattle.std.proofs.Common.{◌≡◌, Some, None, sym, ap, ◌∙◌, arith}
use Rattle.fleet.specs.Lists.{market}
use Rattle.fleet.specs.Sets.{lowest}
use Rattle.matching.specs.Entries.{place}
use Rattle.matching.proofs.Facts.{lists_given}
use Rattle.rotation.specs.Moves.{on_rotation}
use Rattle.rotation.proofs.LastOnes.{none_left}
use Rattle.runs.proofs.Onward.{moving_ends}
use Rattle.board.specs.declared.table.Table.{Table}
use Rattle.board.specs.Shown.{state, Keeps}
use Rattle.board.proofs.Advancing.{lowest_same, turn_same, turn_made, turn_stopped}
use Rattle.board.proofs.Held.{standing_long, light}
use Rattle.board.proofs.board.Board.move_on.Goals as goal

keeps_on : (t u v : Table) → Keeps t u → Keeps u v → Keeps t v
keeps_on t u v k j = record { lists = j.lists ∙ k.lists; settled = j.settled ∙ k.settled }

pub returns-in_default-clause-course : goal.returns-in_default-clause-course
returns-in_default-clause-course g c =
    let t = c.args.self.now.table in
    let m = market t.lists in
    let C = g.P.Policy.chosen c.args.self.now.policy in
    let u = c.loop-turns.self.table in
    let moving = c.loop-turns.invariant.0 in
    let none : lowest m.workers (on_rotation m C (place u.current.places)) ≡ None =
    sym (c.in_default.ensures ∙ lowest_same t u C _ c.loop-turns.invariant.1 (ap g.P.Policy.chosen c.loop-turns.invariant.2)) in
    moving_ends m C t.settled.places (state t) c.args.log.now c.loop-turns.turns c.loop-turns.events (state u) c.loop-turns.log moving
    (omega (arith, light u, moving.room, c.loop-turns.invariant.3)) none (λ st. none_left (lists_given t.lists (g.met.P.Policy.lawful c.args.self.now.policy)) st none)

pub returns-in-Err-clause-course : goal.returns-in-Err-clause-course
returns-in-Err-clause-course g c =
    let t = c.args.self.now.table in
    let m = market t.lists in
    let C = g.P.Policy.chosen c.args.self.now.policy in
    let u = c.loop-turns.self.table in
    let k = c.loop-turns.invariant.1 in
    let dc = ap g.P.Policy.chosen c.loop-turns.invariant.2 in
    let moving = c.loop-turns.invariant.0 in
    let found : lowest m.workers (on_rotation m C (place u.current.places)) ≡ Some c.in-Some.worker = sym (c.in-Some.ensures ∙ lowest_same t u C _ k dc) in
    let e = c.in-Err.ensures in
    turn_stopped m C t.settled.places (state t) c.args.log.now c.loop-turns.turns c.loop-turns.events (state u) c.loop-turns.log moving (omega arith)
    (omega (arith, light u, moving.room, c.loop-turns.invariant.3)) c.in-Some.worker found (lists_given t.lists (g.met.P.Policy.lawful c.args.self.now.policy)) u.current.full
    _ (turn_same t u C _ k dc c.in-Some.worker) _ e.state c.turn.new.log e.log c.in-Err.refusal e.ends.0 e.ends.1

pub loop-turns-preserved : goal.loop-turns-preserved
loop-turns-preserved g c =
    let t = c.args.self.now.table in
    let m = market t.lists in
    let C = g.P.Policy.chosen c.args.self.now.policy in
    let u = c.loop-turns.self.table in
    let k = c.loop-turns.invariant.1 in
    let dc = ap g.P.Policy.chosen c.loop-turns.invariant.2 in
    let moving = c.loop-turns.invariant.0 in
    let found : lowest m.workers (on_rotation m C (place u.current.places)) ≡ Some c.in-Some.worker = sym (c.in-Some.ensures ∙ lowest_same t u C _ k dc) in
    let e = c.in-Ok.ensures in (
      turn_made m C t.settled.places (state t) c.args.log.now c.loop-turns.turns c.loop-turns.events (state u) c.loop-turns.log moving (omega arith)
          (omega (arith, light u, moving.room, c.loop-turns.invariant.3)) c.in-Some.worker found (lists_given t.lists (g.met.P.Policy.lawful c.args.self.now.policy)) u.current.full
          _ (turn_same t u C _ k dc c.in-Some.worker) _ e.state c.turn.new.log e.log c.in-Ok.written e.ends.0 e.ends.1,
      keeps_on _ _ _ k e.keeps,
      e.policy ∙ c.loop-turns.invariant.2,
      c.turn.array_long,
    )

pub returns-clause-course : goal.returns-clause-course
returns-clause-course g c = absurd (omega (arith, c.loop-turns.invariant.0.stands, standing_long c.loop-turns.self.table, c.loop-turns.self.table.few))
