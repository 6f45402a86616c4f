-- Settling: in each round every worker stands at its best open tenant, and the pairs of those not chosen are closed, until none is.
use Rattle.std.specs.Prelude.{◌≡◌, ℕ, zero, suc, ◌+◌, ◌<◌, Bool, cond, not, ◌&&◌, List, length, nat_lt, slice_index, slice_index_or}
use Rattle.fleet.specs.Sets.{Set, any_below, sum_below}
use Rattle.fleet.specs.Market.{Market, Placement, staff}
use Rattle.policy.specs.Choice.{Policy}
use Rattle.fleet.specs.Members.{members}
use Rattle.fleet.specs.declared.worker_set.WorkerSet.{WorkerSet}
use Rattle.matching.specs.Entries.{tabulate}
use Rattle.matching.specs.Staffs.{no_workers}

-- Only a worker's first open pair is ever closed, so its open pairs are the rest of its list:
-- entry w of `closed` says how many pairs of worker w are closed.

-- where each worker stands in a round: the first tenant of its open pairs, 255 if none is open
abbrev pub stands : Market → List ℕ → Placement
stands m closed w = slice_index_or (m.list w) (slice_index closed w) 255

-- the worker stands somewhere, and the tenant does not choose it
abbrev pub rejected : Market → Policy → List ℕ → ℕ → Bool
rejected m C closed w =
    nat_lt (slice_index closed w) (length (m.list w)) && not (C (stands m closed w) (staff (stands m closed) (stands m closed w)) w)

-- the pair of each rejected worker is closed
abbrev pub next_round : Market → Policy → List ℕ → List ℕ
next_round m C closed = tabulate 64 (λ w. slice_index closed w + cond (rejected m C closed w) 1 0)

-- the closed pairs at the end, and how many rounds there were
pub record Outcome : Type 0 where
  pub closed : List ℕ
  pub rounds : ℕ

-- this round and at most n more; it is the last if it closes nothing, and `done` rounds came before
abbrev pub settle_from : Market → Policy → ℕ → ℕ → List ℕ → Outcome
settle_from m C zero done closed = record { closed = closed; rounds = suc done }
settle_from m C (suc n) done closed =
    cond (any_below m.workers (rejected m C closed))
    (settle_from m C n (suc done) (next_round m C closed))
    (record { closed = closed; rounds = suc done })

-- how many pairs of a worker and a tenant on its list there are
abbrev pub pairs : Market → ℕ
pairs m = sum_below m.workers (λ w. length (m.list w))

-- no pair is closed
abbrev pub all_open : List ℕ
all_open = tabulate 64 (λ w. 0)

-- the whole of it, from all pairs open; each round but the last closes a pair, so the pairs are rounds enough
abbrev pub settling : Market → Policy → Outcome
settling m C = settle_from m C (pairs m) 0 all_open

-- where the workers stand in the last round
abbrev pub settled_placement : Market → Policy → Placement
settled_placement m C = stands m (settling m C).closed

-- how many rounds there were, the last among them
abbrev pub settled_rounds : Market → Policy → ℕ
settled_rounds m C = (settling m C).rounds

-- the workers that x places with a tenant below k, and that their tenant does not choose out of its workers
abbrev pub away : Policy → Placement → ℕ → Set
away C x k w = nat_lt (x w) k && not (C (x w) (staff x (x w)) w)

-- of the workers that each of 16 tenants has kept it would choose all again
abbrev pub Content : Policy → List WorkerSet → Type 0
Content C kept = (t : ℕ) → t < 16 → C t (members (slice_index_or kept t no_workers)) ≡ members (slice_index_or kept t no_workers)
