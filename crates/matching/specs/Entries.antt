-- Lists entry by entry: the table of a function, and the placement that a list gives.
use Rattle.std.specs.Prelude.{ℕ, zero, suc, List, [], ◌∷◌, ◌++◌, slice_index_or}
use Rattle.fleet.specs.Market.{Placement}

-- f 0, f 1, .., f (n - 1); shut, so that no proof writes 64 entries out
unfoldable pub tabulate : ℕ → (ℕ → ℕ) → List ℕ
tabulate zero f = []
tabulate (suc n) f = tabulate n f ++ (f n ∷ [])

-- the placement that a list gives: entry w is the tenant of worker w, 255 for none, and past the list there is none
abbrev pub place : List ℕ → Placement
place l w = slice_index_or l w 255
