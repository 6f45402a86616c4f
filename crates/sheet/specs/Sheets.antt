-- What a sheet says, when it is well formed, and its bytes.
use Rattle.std.specs.Prelude.{ℕ, zero, suc, ◌+◌, ◌^◌, Bool, true, not, ◌&&◌, List, [], ◌∷◌, ◌++◌, length, is_some, Option, ◌==◌, nat_le, nat_lt, slice_index}
use Rattle.std.specs.List.{flat_map}
use Rattle.fleet.specs.Sets.{all_under}
use Rattle.fleet.specs.Market.{Market, different}
use Rattle.policy.specs.Kinds.{RankedRule, SeatedRule}
use Rattle.policy.specs.Tables.{TableRule}
use Rattle.policy.specs.Faults.{entries_fault}
use Rattle.policy.specs.declared.fault.TableFault.{TableFault}
use Rattle.sheet.specs.declared.fields.Kind.{Kind}
use Rattle.sheet.specs.declared.fields.Kind.TheVariants.{Counts, Worker, Ranked, Seated, Table, Quarantine}
use Rattle.sheet.specs.Framing.{field_bytes}
use Rattle.sheet.specs.Fields.{tag_of}

-- a worker: its class, and its list of tenants, best first
pub record WorkerRow : Type 0 where
  pub class : ℕ
  pub list : List ℕ

-- what a sheet says; tenants are numbered in this order, the ranked ones first
pub record SheetText : Type 0 where
  pub workers : List WorkerRow
  pub ranked : List RankedRule
  pub seated : List SeatedRule
  pub tables : List TableRule
  pub quarantine : List ℕ

-- the rows of the first n workers, by their lists and their classes
abbrev pub rows_of : Market → List ℕ → ℕ → List WorkerRow
rows_of m classes zero = []
rows_of m classes (suc n) = rows_of m classes n ++ (record { class = slice_index classes n; list = m.list n } ∷ [])

-- how many tenants there are
abbrev pub tenants_in : SheetText → ℕ
tenants_in s = length s.ranked + length s.seated + length s.tables

-- the contents of the fields

-- the class, then the list
abbrev pub worker_content : WorkerRow → List ℕ
worker_content r = r.class ∷ r.list

-- the cap, then the list
abbrev pub ranked_content : RankedRule → List ℕ
ranked_content r = r.cap ∷ r.list

-- the overall cap, the eight class caps, then the list
abbrev pub seated_content : SeatedRule → List ℕ
seated_content r = r.overall ∷ (r.caps ++ r.list)

-- the workers, then the entries
abbrev pub table_content : TableRule → List ℕ
table_content r = r.workers ++ r.entries

-- the bytes of a field of this kind with this content
abbrev pub written : Kind → List ℕ → List ℕ
written k content = field_bytes (record { tag = tag_of k; at = 0; content = content })

-- the bytes of a sheet: the counts, a field for each worker, one for each tenant, and the quarantine
abbrev pub encode : SheetText → List ℕ
encode s =
    written Counts (length s.workers ∷ tenants_in s ∷ []) ++
    (flat_map (λ r. written Worker (worker_content r)) s.workers ++
    (flat_map (λ r. written Ranked (ranked_content r)) s.ranked ++
    (flat_map (λ r. written Seated (seated_content r)) s.seated ++
    (flat_map (λ r. written Table (table_content r)) s.tables ++ written Quarantine s.quarantine))))

-- the first law of choice that entries break, if they break one
abbrev pub broken_law : List ℕ → Option TableFault
broken_law entries = entries_fault (length entries) entries

-- well-formed sheets

-- each element passes the test
abbrev pub all : {X : Type 0} → (X → Bool) → List X → Bool
all p [] = true
all p (x ∷ xs) = p x && all p xs

-- different numbers, all below n
abbrev pub is_list : ℕ → List ℕ → Bool
is_list n l = all_under n l && different l

-- a class from 0 to 7, and different tenants, of which there are so many
abbrev pub good_worker : ℕ → WorkerRow → Bool
good_worker tenants r = nat_lt r.class 8 && is_list tenants r.list

-- a cap from 0 to 64, and different workers, of which there are so many
abbrev pub good_ranked : ℕ → RankedRule → Bool
good_ranked workers r = nat_le r.cap 64 && is_list workers r.list

-- nine caps from 0 to 64, and different workers
abbrev pub good_seated : ℕ → SeatedRule → Bool
good_seated workers r = nat_le r.overall 64 && ((length r.caps == 8 && all_under 65 r.caps) && is_list workers r.list)

-- at most 8 different workers, and an entry for each set of them, which keep the laws of choice
abbrev pub good_table : ℕ → TableRule → Bool
good_table workers r =
    (nat_le (length r.workers) 8 && is_list workers r.workers) && (length r.entries == 2 ^ length r.workers && not (is_some (broken_law r.entries)))

-- 1 to 64 workers, 1 to 16 tenants, all of them well formed, and different workers in quarantine
abbrev pub well_formed : SheetText → Bool
well_formed s =
    let workers = length s.workers in
    let tenants = tenants_in s in
    ((nat_le 1 workers && nat_le workers 64) && (nat_le 1 tenants && nat_le tenants 16)) &&
    (all (good_worker tenants) s.workers &&
    (all (good_ranked workers) s.ranked && (all (good_seated workers) s.seated && (all (good_table workers) s.tables && is_list workers s.quarantine))))
