-- What an iterator over a set gives: each time a member that has no lower one, and at the end all have come.
use Rattle.std.proofs.Common.{◌≡◌, ℕ, ◌<◌, true, false, Some, None, sym, arith}
use mathlib.Core.Path.{fun_ext}
use Rattle.fleet.specs.Sets.{Set, Workers, nobody}
use Rattle.fleet.specs.Members.{Gives}
use Rattle.fleet.proofs.Sizes.{false_since}
use Rattle.fleet.proofs.First.{lowest_some, lowest_below, none_below}

-- a worker that is given is a member and a worker's number
pub given_member : (A B : Set) (w : ℕ) → Gives A (Some w) B → (A w ≡ true) × (w < 64)
given_member A B w g = lowest_some 64 A w (sym g.found)

-- no member is lower than the one that is given
pub given_lowest : (A B : Set) (w u : ℕ) → Gives A (Some w) B → u < w → A u ≡ false
given_lowest A B w u g l = lowest_below 64 A w u (sym g.found) l

-- where none is given, there was none
pub given_none : (A B : Set) → Workers A → Gives A None B → A ≡ nobody
given_none A B small g =
    let none = none_below 64 A (sym g.found) in
    fun_ext (λ w. false_since (A w) (λ h. let k = none w (small w h) in let z : ◌≡◌ {A = ℕ} 0 1 = grind arith in omega arith))
