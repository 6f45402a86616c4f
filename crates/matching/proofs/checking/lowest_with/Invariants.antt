-- Nothing is found below the number that the loop has come to.
use Rattle.std.proofs.Common.{◌≡◌, ℕ, ◌<◌, None, Option}
use Rattle.matching.specs.Checking.{lowest_with}
use Rattle.matching.proofs.checking.lowest_with.Given as goal

abbrev pub invariant-loop-n : goal.invariant-loop-n
invariant-loop-n g l =
    (find : ℕ → Option ℕ) → ((k : ℕ) (o : Option ℕ) → k < l.count → goal.F-post g l.found k o → o ≡ find k) → lowest_with l.n find ≡ None
