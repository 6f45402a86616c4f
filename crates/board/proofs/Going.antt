-- One call more of a run.
use Rattle.std.proofs.Common.{◌≡◌, ℕ, List, [], ◌∷◌, ◌++◌, sym, ap, ◌∙◌, ap₂}
use Rattle.fleet.specs.Lists.{market}
use Rattle.matching.specs.declared.placement.Placement.{Placement}
use Rattle.policy.specs.Choice.{Policy}
use Rattle.runs.specs.States.{State, Call}
use Rattle.runs.specs.Calls.{answer, settled_list, made, board}
use Rattle.runs.proofs.Kept.{run_push}
use Rattle.board.specs.declared.table.Table.{Table}
use Rattle.board.specs.Shown.{state, called, Keeps, GoesOn}

pub goes_on : (C : Policy) (c : Call) (t u : Table) → Keeps t u → state u ≡ (called C t c).0 → GoesOn C c t u
goes_on C c t u k e = record {
  more = λ first cs a.
      let m = market t.lists in
      let same : market t.lists ≡ market u.lists = ap market (sym k.lists) in
      record {
        settled = ap (λ (p : Placement). p.places) k.settled ∙ a.settled ∙ ap (λ n. settled_list n C) same;
        reached =
            e ∙ ap₂ (λ (l : List ℕ) (s : State). (answer m C l s c).0) a.settled a.reached ∙ sym (run_push m C cs (made m C first) c) ∙
            ap (λ n. board n C first (cs ++ (c ∷ []))) same;
      };
}
