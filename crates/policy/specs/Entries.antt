-- What a Table policy holds, and what making a table answers.
use Rattle.std.specs.Prelude.{ℕ, ◌^◌, List, length, take, Some, None, Ok, Err, Option, Result}
use Rattle.fleet.specs.Rankings.{listed}
use Rattle.policy.specs.Tables.{TableRule}
use Rattle.policy.specs.Faults.{table_fault}
use Rattle.policy.specs.Rosters.{rules}
use Rattle.policy.specs.declared.fault.TableFault.{TableFault}
use Rattle.policy.specs.declared.table.TableTenant.{TableTenant}
use Rattle.policy.specs.declared.roster.Roster.{Roster}

-- the workers of a tenant, and the entries for their sets
abbrev pub table_rule : TableTenant → TableRule
table_rule t = record { workers = listed t.workers; entries = take (2 ^ length (listed t.workers)) t.entries }

-- the policy of such tenants, who have nothing in common
abbrev pub Table : Type 0
Table = Roster TableTenant (Unit {0})

-- the tenants of the policy, by number
abbrev pub tables : Table → List TableRule
tables = rules table_rule

-- the workers and entries of a table that was made, else the fault
abbrev pub new_answer : Result TableTenant TableFault → Result TableRule TableFault
new_answer (Ok t) = Ok (table_rule t)
new_answer (Err f) = Err f

-- the fault, or else the table
abbrev pub unless : Option TableFault → TableRule → Result TableRule TableFault
unless (Some f) t = Err f
unless None t = Ok t

-- the answer where a table is to be made of these workers and entries
abbrev pub making : List ℕ → List ℕ → Result TableRule TableFault
making ws entries = unless (table_fault ws entries) (record { workers = ws; entries = entries })
