-- A worker's step, where it would go next down its list, and its successor, who is put out there.
use Rattle.std.specs.Prelude.{ℕ, Bool, not, ◌&&◌, Some, None, Option, nat_lt}
use Rattle.std.specs.Option.{option_map}
use Rattle.fleet.specs.Sets.{Set, insert, lowest}
use Rattle.fleet.specs.Market.{Market, Placement, rank, staff, depth}
use Rattle.policy.specs.Choice.{Policy}
use Rattle.std.specs.List.{find}
use Rattle.matching.specs.Stable.{wants}

-- t ranks after w's own tenant, and wants w
abbrev pub candidate : Market → Policy → Placement → ℕ → ℕ → Bool
candidate m C x w t = nat_lt (depth m x w) (rank (m.list w) t) && wants C x w t

-- the first tenant of w's list that ranks after its own and wants w
abbrev pub step : Market → Policy → Placement → ℕ → Option ℕ
step m C x w = find (candidate m C x w) (m.list w)

-- t's workers that it would let go for w
abbrev pub put_out : Policy → Placement → ℕ → ℕ → Set
put_out C x t w v = staff x t v && not (C t (insert (staff x t) w) v)

-- the worker that is put out where w steps to
abbrev pub successor : Market → Policy → Placement → ℕ → Option ℕ
successor m C x w = elim (step m C x w) [ Some t ↦ lowest 64 (put_out C x t w) | None ↦ None ]

-- the tenant that w steps to with the worker that is put out there, if one is
abbrev pub displacement : Market → Policy → Placement → ℕ → Option (ℕ × ℕ)
displacement m C x w = elim (step m C x w) [ Some t ↦ option_map (λ v. (t, v)) (lowest 64 (put_out C x t w)) | None ↦ None ]
