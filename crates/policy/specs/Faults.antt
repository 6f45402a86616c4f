-- The first fault of a table's entries.
use Rattle.std.specs.Prelude.{ℕ, ◌^◌, Bool, cond, List, length, Some, None, Option, ◌==◌, nat_lt}
use Rattle.policy.specs.Search.{seek, seek_pair}
use Rattle.policy.specs.Tables.{outside, breaks_substitutability, breaks_monotonicity, breaks_consistency}
use Rattle.policy.specs.declared.fault.TableLaw.{TableLaw}
use Rattle.policy.specs.declared.fault.TableLaw.TheVariants.{Substitutability, Monotonicity, Consistency}
use Rattle.policy.specs.declared.fault.TableFault.{TableFault}
use Rattle.policy.specs.declared.fault.TableFault.TheVariants.{Workers, Entries, Outside, Broken}

-- the entries at z and y break the law
abbrev pub breaks : TableLaw → List ℕ → ℕ → ℕ → Bool
breaks Substitutability = breaks_substitutability
breaks Monotonicity = breaks_monotonicity
breaks Consistency = breaks_consistency

-- the laws by the numbers of their faults
abbrev pub law_number : TableLaw → ℕ
law_number Substitutability = 21
law_number Monotonicity = 22
law_number Consistency = 23

-- the faults by number
abbrev pub fault_number : TableFault → ℕ
fault_number Workers = 12
fault_number Entries = 12
fault_number (Outside index) = 20
fault_number (Broken law whole part) = law_number law

-- an entry outside its index is the fault, if there is one
abbrev pub or_outside : Option ℕ → Option TableFault → Option TableFault
or_outside (Some z) other = Some (Outside z)
or_outside None other = other

-- a pair that breaks the law is the fault, if there is one
abbrev pub or_broken : TableLaw → Option (ℕ × ℕ) → Option TableFault → Option TableFault
or_broken law (Some (z, y)) other = Some (Broken law z y)
or_broken law None other = other

-- the fault of two of n entries that break the law, the least z and then the least y, or else another
abbrev pub law_fault : TableLaw → ℕ → List ℕ → Option TableFault → Option TableFault
law_fault law n entries other = or_broken law (seek_pair n 0 n (breaks law entries)) other

-- the first fault of n entries: the least index whose entry is outside it, and then law by law
abbrev pub entries_fault : ℕ → List ℕ → Option TableFault
entries_fault n entries =
    or_outside (seek n 0 (outside entries))
    (law_fault Substitutability n entries (law_fault Monotonicity n entries (law_fault Consistency n entries None)))

-- the first fault of a table: at most eight workers, as many entries as they have sets, and the entries
abbrev pub table_fault : List ℕ → List ℕ → Option TableFault
table_fault ws entries =
    cond (nat_lt 8 (length ws)) (Some Workers) (cond (length entries == 2 ^ length ws) (entries_fault (length entries) entries) (Some Entries))
