-- Layer 2. What a field may hold: which tags are due, how long its content is, and the ranges of its numbers.
use Rattle.std.specs.Prelude.{◌≡◌, ℕ, ◌+◌, ◌-◌, ◌<◌, ◌≤◌, Bool, cond, not, ◌&&◌, List, length, take, drop, is_some, Some, None, Ok, Err, Option, Result, MatchResult, ◌==◌, nat_eq, nat_le, nat_lt, slice_index}
use Rattle.std.specs.Option.{unwrap_or}
use Rattle.fleet.specs.Sets.{among}
use Rattle.policy.specs.Search.{seek}
use Rattle.policy.specs.Tables.{table_length}
use Rattle.sheet.specs.declared.faults.FieldFault.{FieldFault}
use Rattle.sheet.specs.declared.faults.FieldFault.TheVariants.{Framing, Tag, Length, Range, Repeat}
use Rattle.sheet.specs.declared.faults.FramingFault.{FramingFault}
use Rattle.sheet.specs.declared.fields.Due.{Due}
use Rattle.sheet.specs.declared.fields.Due.TheVariants.{First, NextWorker, NextTenant, Last}
use Rattle.sheet.specs.declared.fields.Field.{Field as FieldCase}
use Rattle.sheet.specs.declared.fields.Field.TheVariants as field
use Rattle.sheet.specs.declared.fields.Size.{Size}
use Rattle.sheet.specs.declared.fields.Kind.{Kind}
use Rattle.sheet.specs.declared.fields.Kind.TheVariants.{Counts, Worker, Ranked, Seated, Table, Quarantine}
use Rattle.sheet.specs.declared.fields.UnknownTag.{UnknownTag}
use Rattle.sheet.specs.Framing.{Part, required, frame_at}

-- the tag of each kind
abbrev pub tag_of : Kind → ℕ
tag_of Counts = 1
tag_of Worker = 2
tag_of Ranked = 3
tag_of Seated = 4
tag_of Table = 5
tag_of Quarantine = 6

-- the kind with this tag, or an error with a tag that no kind has: the kinds have the tags 1 to 6
abbrev pub Decodes : ℕ → Result Kind UnknownTag → Type 0
Decodes tag r = MatchResult r (λ kind. tag_of kind ≡ tag) (λ e. (e.0 ≡ tag) × (1 ≤ tag → 6 < tag))

-- the kind, if the test is passed
abbrev pub only : Bool → Kind → Option Kind
only b k = cond b (Some k) None

-- the kind of tenant with this tag
abbrev pub tenant_kind : ℕ → Option Kind
tenant_kind tag = cond (tag == 3) (Some Ranked) (cond (tag == 4) (Some Seated) (only (tag == 5) Table))

-- the kind of a field with this tag, if such a field is due; the tags of tenants never fall
abbrev pub kind_due : Due → ℕ → Option Kind
kind_due First tag = only (tag == 1) Counts
kind_due NextWorker tag = only (tag == 2) Worker
kind_due (NextTenant lowest) tag = cond (nat_lt tag lowest) None (tenant_kind tag)
kind_due Last tag = only (tag == 6) Quarantine

-- how many workers a table has whose content is so long: n of them and 2 ^ n entries, n at most 8
abbrev pub table_workers : ℕ → Option ℕ
table_workers len = seek 9 0 (λ n. nat_eq (table_length n) len)

-- the lengths that a content may have
abbrev pub has_length : Kind → ℕ → Bool
has_length Counts len = len == 2
has_length Worker len = nat_le 1 len && nat_le len 17
has_length Ranked len = nat_le 1 len && nat_le len 65
has_length Seated len = nat_le 9 len && nat_le len 73
has_length Table len = is_some (table_workers len)
has_length Quarantine len = nat_le len 64

-- how many numbers stand before the list: two counts, a class, a cap, or an overall cap and eight class caps
abbrev pub before_list : Kind → ℕ
before_list Counts = 2
before_list Worker = 1
before_list Ranked = 1
before_list Seated = 9
before_list Table = 0
before_list Quarantine = 0

-- where the list ends in a content so long: at its end, but for a table, whose entries follow
abbrev pub list_end : Kind → ℕ → ℕ
list_end Counts len = len
list_end Worker len = len
list_end Ranked len = len
list_end Seated len = len
list_end Table len = unwrap_or (table_workers len) 0
list_end Quarantine len = len

-- whether a number is in the range of its place in the content: 1 to 64 workers, 1 to 16 tenants, classes 0 to 7, caps 0 to 64, listed tenants and workers below their count
abbrev pub in_range : Kind → Size → ℕ → ℕ → Bool
in_range Counts s i n = nat_le 1 n && nat_le n (cond (i == 0) 64 16)
in_range Worker s i n = nat_lt n (cond (i == 0) 8 s.tenants)
in_range Ranked s i n = nat_lt n (cond (nat_lt i 1) 65 s.workers)
in_range Seated s i n = nat_lt n (cond (nat_lt i 9) 65 s.workers)
in_range Table s i n = nat_lt n s.workers
in_range Quarantine s i n = nat_lt n s.workers

-- the place in the content of the first number that is outside its range
abbrev pub out_of_range : Kind → Size → List ℕ → Option ℕ
out_of_range k s content = seek (list_end k (length content)) 0 (λ i. not (in_range k s i (slice_index content i)))

-- the list in a content
abbrev pub list_part : Kind → List ℕ → List ℕ
list_part k content = let start = before_list k in take (list_end k (length content) - start) (drop start content)

-- the place of the first number of a list that stands there before
abbrev pub repeated : List ℕ → Option ℕ
repeated l = seek (length l) 0 (λ i. among (take i l) (slice_index l i))

-- a field with its kind
pub record Field : Type 0 where
  pub kind : Kind
  pub at : ℕ
  pub content : List ℕ

-- the fault at a place behind an offset, if there is one
abbrev pub fault_at : (ℕ → FieldFault) → ℕ → Option ℕ → Option FieldFault
fault_at fault offset None = None
fault_at fault offset (Some i) = Some (fault (offset + i))

-- the first of two faults
abbrev pub first_of : Option FieldFault → Option FieldFault → Option FieldFault
first_of None b = b
first_of (Some f) b = Some f

-- what is wrong with the content of a field of a kind: its length, then a number outside its range, then a number twice in its list
abbrev pub content_fault : Kind → Size → Part → Option FieldFault
content_fault k s f =
    cond (has_length k (length f.content))
    (first_of (fault_at Range (f.at + 3) (out_of_range k s f.content)) (fault_at Repeat (f.at + 3 + before_list k) (repeated (list_part k f.content))))
    (Some (Length f.at))

-- the fault of a check, if it finds one
abbrev pub refusal : Result (Unit {0}) FieldFault → Option FieldFault
refusal (Ok _) = None
refusal (Err e) = Some e

-- the field, unless there is a fault
abbrev pub unless : Option FieldFault → Kind → Part → Result Field FieldFault
unless None k f = Ok (record { kind = k; at = f.at; content = f.content })
unless (Some e) k f = Err e

-- the field that a part is, by the kind that is due with its tag: the tag is looked at first, then the content
abbrev pub of_kind : Option Kind → Size → Part → Result Field FieldFault
of_kind None s f = Err (Tag f.at)
of_kind (Some k) s f = unless (content_fault k s f) k f

-- the field that is due, where this was cut out of the input
abbrev pub cut_for : Due → Size → Result Part FramingFault → Result Field FieldFault
cut_for due s (Err e) = Err (Framing e)
cut_for due s (Ok f) = of_kind (kind_due due f.tag) s f

-- the field that is due at an offset
abbrev pub field_due : Due → Size → List ℕ → ℕ → Result Field FieldFault
field_due due s bytes at = cut_for due s (required at (frame_at bytes at))

-- a field of the program by its kind
abbrev pub field_of : FieldCase → Field
field_of (field.Counts at content) = record { kind = Counts; at = at; content = content.now }
field_of (field.Worker at content) = record { kind = Worker; at = at; content = content.now }
field_of (field.Ranked at content) = record { kind = Ranked; at = at; content = content.now }
field_of (field.Seated at content) = record { kind = Seated; at = at; content = content.now }
field_of (field.Table at content) = record { kind = Table; at = at; content = content.now }
field_of (field.Quarantine at content) = record { kind = Quarantine; at = at; content = content.now }

-- what the program finds where a field is due
abbrev pub fields_of : Result FieldCase FieldFault → Result Field FieldFault
fields_of (Ok f) = Ok (field_of f)
fields_of (Err e) = Err e
