-- What a sheet says, and the market that it says.
use Rattle.std.specs.Prelude.{ℕ, [], ◌∷◌, map, length, Ok, Err, Result, slice_index_or}
use Rattle.fleet.specs.Sets.{Set, among}
use Rattle.fleet.specs.Market.{Market}
use Rattle.policy.specs.Choice.{Policy}
use Rattle.policy.specs.Combined.{joined, quarantined}
use Rattle.policy.specs.Kinds.{ranked_policy, seated_policy}
use Rattle.policy.specs.Tables.{table_policy}
use Rattle.policy.specs.Ranks.{Ranked, ranks}
use Rattle.policy.specs.Seats.{Seated, seats}
use Rattle.policy.specs.Entries.{Table, tables}
use Rattle.sheet.specs.declared.faults.SheetFault.{SheetFault}
use Rattle.sheet.specs.declared.sheet.Sheet.{Sheet}
use Rattle.sheet.specs.Sheets.{SheetText, WorkerRow, tenants_in}
use Rattle.sheet.specs.Texts.{text_of}

-- the text of a sheet
abbrev pub text : Sheet → SheetText
text s = text_of s.lists s.tenants s.quarantine

-- one worker of class 0, one ranked tenant of this cap, and all lists empty
abbrev pub one_worker_text : ℕ → SheetText
one_worker_text «cap» = record { workers = record { class = 0; list = [] } ∷ []; ranked = record { cap = «cap»; list = [] } ∷ []; seated = []; tables = []; quarantine = [] }

-- the row of nobody
abbrev pub no_row : WorkerRow
no_row = record { class = 0; list = [] }

-- how many workers and tenants there are, and the workers' lists
abbrev pub market_said : SheetText → Market
market_said s = record { workers = length s.workers; tenants = tenants_in s; list = λ w. (slice_index_or s.workers w no_row).list }

-- what a sheet says after it was read, or the fault
abbrev pub read_told : Result (Unit {0}) SheetFault → SheetText → Result SheetText SheetFault
read_told (Ok _) s = Ok s
read_told (Err f) s = Err f

-- the sheet that was read, or the fault
abbrev pub sheet_told : Result Sheet SheetFault → Result SheetText SheetFault
sheet_told (Ok s) = Ok (text s)
sheet_told (Err f) = Err f

-- the policy that a sheet says: the tenants of each kind in turn, and nobody of the quarantine is put to them
abbrev pub policy_said : SheetText → Policy
policy_said s =
    let classes = map (λ r. r.class) s.workers in
    quarantined (among s.quarantine)
    (joined (length s.ranked) (ranked_policy s.ranked) (joined (length s.seated) (seated_policy classes s.seated) (table_policy s.tables)))

-- the policy that the parts make, kind by kind
abbrev pub policy_of : Set → Ranked → Seated → Table → Policy
policy_of Q r s t = quarantined Q (joined (length (ranks r)) (ranked_policy (ranks r)) (joined (length (seats s)) (seated_policy s.common.classes (seats s)) (table_policy (tables t))))
