-- The verdict on a placement: that it is stable, or its first fault.
use Rattle.std.specs.Prelude.{◌≡◌, ℕ, zero, suc, ◌<◌, Bool, cond, ◌&&◌, ◌||◌, List, Some, None, Option, Ok, Err, Result, ◌==◌, nat_lt, slice_index_or}
use Rattle.std.specs.Option.{option_map, option_or}
use Rattle.fleet.specs.Sets.{Set, among, minus, lowest}
use Rattle.fleet.specs.Market.{Market, Placement, rank, staff, depth}
use Rattle.policy.specs.Choice.{Policy}
use Rattle.std.specs.List.{find}
use Rattle.matching.specs.Stable.{wants}
use Rattle.matching.specs.declared.checking.Fault.{Fault}
use Rattle.matching.specs.declared.checking.Fault.TheVariants.{Unlisted, Unchosen, Blocking}

-- the placement that bytes give the market's workers: byte w is the tenant of worker w, and past the workers no byte is read
abbrev pub placed_by : Market → List ℕ → Placement
placed_by m bytes w = cond (nat_lt w m.workers) (slice_index_or bytes w 255) 255

-- the lowest number below n for which something is found, and what is found for it
abbrev pub lowest_with : ℕ → (ℕ → Option ℕ) → Option (ℕ × ℕ)
lowest_with zero found = None
lowest_with (suc n) found = option_or (lowest_with n found) (option_map (λ a. (n, a)) (found n))

-- r is the lowest number below n for which something is found, and what is found, of whatever the search finds by the answers `post`
abbrev pub FindsLowest : (ℕ → Option ℕ → Type 0) → ℕ → Option (ℕ × ℕ) → Type 0
FindsLowest post n r = (found : ℕ → Option ℕ) → ((k : ℕ) (o : Option ℕ) → k < n → post k o → o ≡ found k) → r ≡ lowest_with n found

-- w's tenant, if it has one that is not on its list
abbrev pub unlisted : Market → Placement → ℕ → Option ℕ
unlisted m x w = cond (x w == 255 || among (m.list w) (x w)) None (Some (x w))

-- those of t's workers that t does not choose out of them
abbrev pub unchosen : Policy → Placement → ℕ → Set
unchosen C x t = minus (staff x t) (C t (staff x t))

-- the pair of w and t blocks: w likes t better than its place, and t wants w
abbrev pub blocks : Market → Policy → Placement → ℕ → ℕ → Bool
blocks m C x w t = nat_lt (rank (m.list w) t) (depth m x w) && wants C x w t

-- the lowest worker whose tenant is not on its list, and that tenant
abbrev pub unlisted_worker : Market → Placement → Option (ℕ × ℕ)
unlisted_worker m x = lowest_with m.workers (unlisted m x)

-- the lowest tenant whose workers are not acceptable, and the lowest of them that it does not choose
abbrev pub unacceptable_tenant : Market → Policy → Placement → Option (ℕ × ℕ)
unacceptable_tenant m C x = lowest_with m.tenants (λ t. lowest 64 (unchosen C x t))

-- the lowest worker with a pair that blocks, and the first tenant on its list with which it does
abbrev pub blocking_pair : Market → Policy → Placement → Option (ℕ × ℕ)
blocking_pair m C x = lowest_with m.workers (λ w. find (blocks m C x w) (m.list w))

-- a fault as its number, a worker and a tenant, or 0, 0, 0 where there is none: of a worker whose tenant is not listed, else of a tenant
-- and a worker that it does not choose, else of a pair that blocks
abbrev pub fault_of : Option (ℕ × ℕ) → Option (ℕ × ℕ) → Option (ℕ × ℕ) → ℕ × ℕ × ℕ
fault_of (Some (w, t)) unchosen blocking = (30, w, t)
fault_of None (Some (t, w)) blocking = (31, w, t)
fault_of None None (Some (w, t)) = (32, w, t)
fault_of None None None = (0, 0, 0)

-- fine where nothing was found, else the fault that it is
abbrev pub faulty : (ℕ → ℕ → Fault) → Option (ℕ × ℕ) → Result (Unit {0}) Fault
faulty fault None = Ok tt
faulty fault (Some (a, b)) = Err (fault a b)

-- a fault as its number, the worker and the tenant
abbrev pub numbers_of : Fault → ℕ × ℕ × ℕ
numbers_of (Unlisted w t) = (30, w, t)
numbers_of (Unchosen w t) = (31, w, t)
numbers_of (Blocking w t) = (32, w, t)

-- what is told of a placement that is stable, or of its fault
abbrev pub told : Result (Unit {0}) Fault → ℕ × ℕ × ℕ
told (Ok _) = (0, 0, 0)
told (Err fault) = numbers_of fault

-- the first fault of a placement
abbrev pub verdict : Market → Policy → Placement → ℕ × ℕ × ℕ
verdict m C x = fault_of (unlisted_worker m x) (unacceptable_tenant m C x) (blocking_pair m C x)
