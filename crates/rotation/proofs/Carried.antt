-- The moves from one placement to another, one worker more, and the first moves of a list.
use Rattle.std.proofs.Common.{◌≡◌, ℕ, ◌+◌, List, [], ◌++◌, length, take, min, refl, ap, ◌∙◌, add-one, arith}
use Rattle.std.proofs.lemmas.List.{take_min}
use Rattle.fleet.specs.Sets.{Set}
use Rattle.fleet.specs.Market.{Placement}
use Rattle.fleet.specs.declared.Move.{Move}
use Rattle.rotation.specs.Moves.{move_from, only_if, carried}

module _ (x y : Placement) (S : Set) where
  pub carried_none : [] ≡ carried x y S 0
  unfolding carried
  carried_none = refl

  -- one worker more, whose move is there if it is a member
  pub carried_more : (w : ℕ) → carried x y S (w + 1) ≡ carried x y S w ++ only_if (S w) (move_from x y w)
  unfolding carried
  carried_more w = rw add-one refl

-- the first n entries of a list are as many as it has, where it has fewer
pub first_taken : (n k : ℕ) (l : List Move) → k ≡ min (length l) n → take k l ≡ take n l
first_taken n k l m =
    let least : k ≡ min n (length l) = omega (arith, m) in
    ap (λ (i : ℕ). take i l) least ∙ take_min n l
