-- The numbers before this place were seen and are different: the search may start here.
use Rattle.std.proofs.Common.{◌≡◌, ℕ, ◌-◌, ◌<◌, false, length, get_or, take}
use Rattle.fleet.specs.Sets.{among}
use Rattle.policy.specs.Search.{seek}
use Rattle.sheet.specs.Fields.{repeated}
use Rattle.sheet.proofs.contents.first_repeated.Given as goal

abbrev pub invariant-loop-place : goal.invariant-loop-place
invariant-loop-place l =
    (repeated l.list ≡ seek (length l.list - l.place) l.place (λ i. among (take i l.list) (get_or l.list i 0)))
    × ((length l.seen ≡ 256) × ((v : ℕ) → v < 256 → get_or l.seen v false ≡ among (take l.place l.list) v))
