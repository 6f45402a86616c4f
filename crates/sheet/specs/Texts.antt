-- What the parts of a sheet say together.
use Rattle.std.specs.Prelude.{◌≡◌, ℕ, List, Ok, Err, Result}
use Rattle.fleet.specs.Lists.{market}
use Rattle.fleet.specs.Rankings.{listed}
use Rattle.fleet.specs.declared.lists.Lists.{Lists}
use Rattle.fleet.specs.declared.ranking.Ranking.{Ranking}
use Rattle.policy.specs.Ranks.{ranks}
use Rattle.policy.specs.Seats.{seats}
use Rattle.policy.specs.Entries.{tables}
use Rattle.sheet.specs.declared.faults.SheetFault.{SheetFault}
use Rattle.sheet.specs.declared.tenants.Tenants.{Tenants}
use Rattle.sheet.specs.declared.fields.Size.{Size}
use Rattle.sheet.specs.Sheets.{SheetText, rows_of}
use Rattle.sheet.specs.Reading.{after_tenants, tenants_text, decode}

-- the workers' lists and classes, the tenants of each kind, and the quarantine
abbrev pub text_of : Lists → Tenants → Ranking 64 → SheetText
text_of lists tenants quarantine = record {
  workers = rows_of (market lists) tenants.seated.common.classes lists.workers;
  ranked = ranks tenants.ranked;
  seated = seats tenants.seated;
  tables = tables tenants.tables;
  quarantine = listed quarantine;
}

-- all but the quarantine was read, which leaves that to read at the reader's place; or there was a fault
abbrev pub People : List ℕ → Result (Size × Lists × Tenants) SheetFault → ℕ → Type 0
People bytes (Ok p) place =
    decode bytes ≡ after_tenants bytes p.0 (tenants_text (rows_of (market p.1) p.2.seated.common.classes p.1.workers) p.2) place
People bytes (Err e) place = decode bytes ≡ Err e
