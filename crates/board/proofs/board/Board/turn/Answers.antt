-- The open and the commit of a turn, and their events in the log.
use Rattle.std.proofs.Common.{◌≡◌, ◌+◌, List, ◌++◌, length, take, drop, Err, sym, ap, ◌∙◌, arith}
use Rattle.std.proofs.lemmas.Result.{err_from_is_err_and}
use Rattle.fleet.specs.declared.Event.{Event}
use Rattle.runs.specs.States.{State, Answer}
use Rattle.runs.specs.States.Call.{commit}
use Rattle.runs.specs.Onward.{Course}
use Rattle.board.specs.Answers.{refusal_number, said, ticket_said}
use Rattle.board.specs.Shown.{called}
use Rattle.board.proofs.Turning.{refused_ends, accepted_moves, one_event, turn_room, second, moved_count, never_refused, whole, turn_written, written_none, turn_refused}
use Rattle.board.proofs.board.Board.turn.Goals as goal

pub returns-in_err-opened : goal.returns-in_err-opened
returns-in_err-opened g c =
    let t = c.args.self.now.table in
    let C = g.P.Policy.chosen c.args.self.now.policy in
    let o = c.open-opened.ensures.done in
    let p = err_from_is_err_and c.from_residual.result c.from_residual.ensures.1 in
    let refused = sym (ap said c.in_err-opened.was) ∙ o.answered.answer in
    let ends = refused_ends t C c.args.worker (refusal_number c.in_err-opened.field-0.0) refused in
    record {
      state = o.answered.state ∙ ends.reached;
      ends = turn_refused t C c.args.worker c.args.at c.in_err-opened.field-0.0 refused _ (p.1 ∙ ap Err p.2);
      log = written_none c.args.log.now c.args.at ∙ sym (ap (λ (es : List Event). take c.args.at c.args.log.now ++ (es ++ drop (c.args.at + length es) c.args.log.now)) ends.none);
      keeps = o.answered.keeps;
      policy = o.policy;
    }

pub write_down-then-requires : goal.write_down-then-requires
write_down-then-requires g c =
    let t = c.args.self.now.table in
    let C = g.P.Policy.chosen c.args.self.now.policy in
    let w = c.args.worker in
    let ok = sym (ap said c.in_ok-opened.was) ∙ c.open-opened.ensures.done.answered.answer in
    let mv = accepted_moves t C w c.in_ok-opened.field-0 ok in
    let one = one_event t C w mv c.in_ok-opened.field-0 ok in
    (omega (arith, (turn_room t C w mv).0, c.requires), omega arith)

pub write_down-requires : goal.write_down-requires
write_down-requires g c =
    let t = c.args.self.now.table in
    let C = g.P.Policy.chosen c.args.self.now.policy in
    let w = c.args.worker in
    let o = c.open-opened.ensures.done in
    let ok = sym (ap said c.in_ok-opened.was) ∙ o.answered.answer in
    let mv = accepted_moves t C w c.in_ok-opened.field-0 ok in
    let one = one_event t C w mv c.in_ok-opened.field-0 ok in
    let u = c.open-opened.new.self.table in
    let D = g.P.Policy.chosen c.open-opened.new.self.policy in
    let next : called D u (commit (ticket_said c.open-opened.result.1)) ≡ _ = second t C w mv u D o.answered.keeps (ap g.P.Policy.chosen o.policy) o.answered.state (ticket_said c.open-opened.result.1) c.open-opened.ensures.ticket in
    let count = moved_count t C w mv c.in_ok-committed.committed _ (sym (ap said c.in_ok-committed.was) ∙ c.commit.ensures.answered.answer) next in
    let end = c.write_down-then.ensures.end in
    (omega (arith, (turn_room t C w mv).0, c.requires), omega (arith, (turn_room t C w mv).1))

pub returns : goal.returns
returns g c =
    let t = c.args.self.now.table in
    let C = g.P.Policy.chosen c.args.self.now.policy in
    let w = c.args.worker in
    let o = c.open-opened.ensures.done in
    let ok = sym (ap said c.in_ok-opened.was) ∙ o.answered.answer in
    let mv = accepted_moves t C w c.in_ok-opened.field-0 ok in
    let one = one_event t C w mv c.in_ok-opened.field-0 ok in
    let u = c.open-opened.new.self.table in
    let D = g.P.Policy.chosen c.open-opened.new.self.policy in
    let next : called D u (commit (ticket_said c.open-opened.result.1)) ≡ _ = second t C w mv u D o.answered.keeps (ap g.P.Policy.chosen o.policy) o.answered.state (ticket_said c.open-opened.result.1) c.open-opened.ensures.ticket in
    let k = c.commit.ensures in
    let written = turn_written t C w mv c.args.log.now c.args.at c.in_ok-opened.field-0 c.in_ok-committed.committed _ next ok (sym (ap said c.in_ok-committed.was) ∙ k.answered.answer) _ _ _ o.answered.slip k.answered.slip
    _ _ _ c.write_down-then.ensures.log c.write_down.ensures.log c.write_down-then.ensures.end (omega (arith, (turn_room t C w mv).0, c.requires)) in
    record {
      state = k.answered.state ∙ ap (λ (p : State × Answer). p.0) next ∙ sym (ap (λ (d : Course). d.reached) (whole t C w mv));
      ends = (c.write_down.ensures.end ∙ written.0, ap (λ (d : Course). d.stopped) (whole t C w mv));
      log = written.1;
      keeps = record { lists = k.answered.keeps.lists ∙ o.answered.keeps.lists; settled = k.answered.keeps.settled ∙ o.answered.keeps.settled };
      policy = k.policy ∙ o.policy;
    }

pub returns-in_err-committed : goal.returns-in_err-committed
returns-in_err-committed g c =
    let t = c.args.self.now.table in
    let C = g.P.Policy.chosen c.args.self.now.policy in
    let w = c.args.worker in
    let o = c.open-opened.ensures.done in
    let ok = sym (ap said c.in_ok-opened.was) ∙ o.answered.answer in
    let mv = accepted_moves t C w c.in_ok-opened.field-0 ok in
    let u = c.open-opened.new.self.table in
    let D = g.P.Policy.chosen c.open-opened.new.self.policy in
    let next : called D u (commit (ticket_said c.open-opened.result.1)) ≡ _ = second t C w mv u D o.answered.keeps (ap g.P.Policy.chosen o.policy) o.answered.state (ticket_said c.open-opened.result.1) c.open-opened.ensures.ticket in
    absurd (never_refused t C w mv (refusal_number c.in_err-committed.field-0.0) _ (sym (ap said c.in_err-committed.was) ∙ c.commit.ensures.answered.answer) next)
