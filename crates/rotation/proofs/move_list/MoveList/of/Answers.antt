-- The first moves of the slice are on the list.
use Rattle.std.proofs.Common.{◌∙◌, arith}
use Rattle.std.proofs.lemmas.List.{take_all}
use Rattle.rotation.proofs.move_list.MoveList.of.Goals as goal

pub returns : goal.returns
returns c = c.loop-step.invariant.listed ∙ take_all c.loop-step.step-index c.first_moves-step-items.result.now (omega arith) ∙ c.first_moves-step-items.ensures.first
