-- An event is written as a field of tag 7 with a content of 12 bytes: its number in eight bytes, low byte first, its kind, worker, from and to.
use Rattle.std.specs.Prelude.{ℕ, ◌+◌, ◌*◌, ◌/◌, ◌%◌, ◌^◌, Bool, cond, ◌&&◌, List, [], ◌∷◌, ◌++◌, Some, None, Option, nat_le, nat_lt, slice_index}
use Rattle.fleet.specs.declared.Event.{Event}

-- the eight bytes of a number, low byte first
abbrev pub low_first : ℕ → List ℕ
low_first n = n % 256 ∷ n / 256 % 256 ∷ n / 65536 % 256 ∷ n / 16777216 % 256 ∷ n / 4294967296 % 256 ∷ n / 1099511627776 % 256 ∷ n / 281474976710656 % 256 ∷ n / 72057594037927936 % 256 ∷ []

-- the number whose eight bytes these begin with
abbrev pub number_in : List ℕ → ℕ
number_in l =
    slice_index l 0 + slice_index l 1 * 256 + slice_index l 2 * 65536 + slice_index l 3 * 16777216 + slice_index l 4 * 4294967296 + slice_index l 5 * 1099511627776 + slice_index l 6 * 281474976710656
    + slice_index l 7 * 72057594037927936

-- the content of an event's field
abbrev pub content_of : Event → List ℕ
content_of e = low_first e.number ++ (e.kind ∷ e.worker ∷ e.from ∷ e.to ∷ [])

-- the 15 bytes of an event
abbrev pub encode : Event → List ℕ
encode e = 7 ∷ 12 ∷ 0 ∷ content_of e

-- the event that a content of 12 bytes says
abbrev pub event_of : List ℕ → Event
event_of l = record { number = number_in l; kind = slice_index l 8; worker = slice_index l 9; from = slice_index l 10; to = slice_index l 11 }

-- the kind is 1 to 4, the worker below 64, and the tenants below 16
abbrev pub in_range : Event → Bool
in_range e = (nat_le 1 e.kind && nat_le e.kind 4) && (nat_lt e.worker 64 && (nat_lt e.from 16 && nat_lt e.to 16))

-- the number has 64 bits, and the others are in range: the events that a journal can hold
abbrev pub writable : Event → Bool
writable e = nat_lt e.number (2 ^ 64) && in_range e

-- the offset in its field of the first number of an event that is outside its range
abbrev pub outside : Event → Option ℕ
outside e =
    cond (nat_le 1 e.kind && nat_le e.kind 4)
    (cond (nat_lt e.worker 64) (cond (nat_lt e.from 16) (cond (nat_lt e.to 16) None (Some 14)) (Some 13)) (Some 12))
    (Some 11)
