-- The kinds of event by number.
use Rattle.std.specs.Prelude.{◌≡◌, ℕ, Bool, false, ◌&&◌, Result, MatchResult, nat_le}
use Rattle.fleet.specs.declared.event_kind.EventKind.{EventKind}
use Rattle.fleet.specs.declared.event_kind.EventKind.TheVariants.{Drain, Move, Back, Rewind}
use Rattle.fleet.specs.declared.event_kind.UnknownKind.{UnknownKind}

-- the number of a kind
abbrev pub kind_number : EventKind → ℕ
kind_number Drain = 1
kind_number Move = 2
kind_number Back = 3
kind_number Rewind = 4

-- some kind has the number n
abbrev pub is_kind : ℕ → Bool
is_kind n = nat_le 1 n && nat_le n 4

-- the answer is the kind with the number n, or n itself where no kind has it
abbrev pub KindOf : ℕ → Result EventKind UnknownKind → Type 0
KindOf n r = MatchResult r (λ kind. kind_number kind ≡ n) (λ unknown. (unknown.0 ≡ n) × (is_kind n ≡ false))
