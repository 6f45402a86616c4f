-- Empty lists are sound.
use Rattle.std.proofs.Common.{ℕ, List, replicate, refl, ap}
use Rattle.std.proofs.lemmas.Bool.{both_ways}
use Rattle.fleet.specs.Sets.{among}
use Rattle.fleet.specs.Rankings.{listed, row}
use Rattle.fleet.proofs.Sound.{empty_rows, empty_len, empty_market}
use Rattle.fleet.proofs.markets.empty_lists.Goals as goal

pub invariant_of-result : goal.invariant_of-result
invariant_of-result c =
    let blank = c.empty-row.result in
    let none = empty_rows blank c.empty-row.ensures in record { rooms = refl; manned = c.requires.manned; crew = c.requires.crew; hosted = c.requires.hosted; hosts = c.requires.hosts; below = (λ w t h. absurd (both_ways (among (listed (row (replicate 64 blank) w)) t) (ap (λ (l : List ℕ). among l t) (none w)) h)); past = (λ w h. empty_len (row (replicate 64 blank) w) (none w)) }

pub returns : goal.returns
returns c = empty_market c.empty-row.result c.empty-row.ensures c.args.workers c.args.tenants
