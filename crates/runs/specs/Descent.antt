-- Rotations that go strictly down the workers' lists, one after another, whatever the policy.
use Rattle.std.specs.Prelude.{ℕ, suc, Bool, true, ◌&&◌, List, [], ◌∷◌, length, ◌==◌, nat_le, nat_lt}
use Rattle.fleet.specs.Market.{Market, Placement, rank}
use Rattle.fleet.specs.declared.Move.{Move}
use Rattle.matching.specs.Entries.{place}
use Rattle.rotation.specs.Moves.{moved}
use Rattle.runs.specs.States.{Rotation}

-- a move of a worker from n on leaves from where x has it, and goes strictly down its list
unfoldable pub goes_down : Market → Placement → ℕ → Move → Bool
goes_down m x n k =
    nat_le n k.worker && (nat_lt k.worker 64 && (x k.worker == k.from &&
    (nat_lt (rank (m.list k.worker) k.from) (rank (m.list k.worker) k.to) && nat_lt (rank (m.list k.worker) k.to) 16)))

-- so do all these moves, by rising worker number from n on
unfoldable pub descends : Market → Placement → ℕ → List Move → Bool
descends m x n [] = true
descends m x n (k ∷ ks) = goes_down m x n k && descends m x (suc k.worker) ks

-- the rotations go down one after another from the placement l, with two moves each at least
unfoldable pub leads : Market → List ℕ → List Rotation → Bool
leads m l [] = true
leads m l (r ∷ rs) = (descends m (place l) 0 r && nat_lt 1 (length r)) && leads m (moved r l) rs

-- where they lead
unfoldable pub led_to : List ℕ → List Rotation → List ℕ
led_to l [] = l
led_to l (r ∷ rs) = led_to (moved r l) rs
