-- Worked cases: what small markets settle to and the rotations from there on, and what is told of small tables, as one list that one computed test checks.
use Rattle.std.specs.Prelude.{ℕ, Bool, true, false, ◌&&◌, T, List, [], ◌∷◌, map, length, Some, None, Option, ◌==◌, nat_eq, slice_index_or}
use Rattle.std.specs.Option.{unwrap_or}
use Rattle.fleet.specs.Market.{Market}
use Rattle.fleet.specs.declared.Move.{Move}
use Rattle.policy.specs.Choice.{Policy}
use Rattle.policy.specs.Kinds.{RankedRule, ranked_policy, seated_policy}
use Rattle.policy.specs.Combined.{joined}
use Rattle.policy.specs.Faults.{law_number, table_fault}
use Rattle.policy.specs.declared.fault.TableFault.{TableFault}
use Rattle.policy.specs.declared.fault.TableFault.TheVariants.{Workers, Entries, Outside, Broken}
use Rattle.matching.specs.Entries.{tabulate, place}
use Rattle.matching.specs.Settling.{settled_placement, settled_rounds}
use Rattle.rotation.specs.Moves.{moved, rotation_at}

-- the rotation of a worker is asked for: its moves, none where it is on none, and the tenants of the workers after them
pub record Turn : Type 0 where
  pub worker : ℕ
  pub moves : List Move
  pub after : List ℕ

-- a case: the market and its policy, the rounds and the settled tenants of the workers, and rotations one after the other
pub record Case : Type 0 where
  pub market : Market
  pub policy : Policy
  pub rounds : ℕ
  pub settled : List ℕ
  pub turns : List Turn

-- the market of these lists
abbrev pub market_of : ℕ → List (List ℕ) → Market
market_of tenants lists = record { workers = length lists; tenants = tenants; list = λ w. slice_index_or lists w [] }

-- a tenant that chooses the first so many of its list
abbrev pub first_of : ℕ → List ℕ → RankedRule
first_of most list = record { «cap» = most; list = list }

-- a worker's move from one tenant to another
abbrev pub go : ℕ → ℕ → ℕ → Move
go w a b = record { worker = w; from = a; to = b }

-- the lists are as long, and the same entry by entry
abbrev pub same_entries : {A : Type 0} → (A → A → Bool) → List A → List A → Bool
same_entries same [] [] = true
same_entries same [] (b ∷ k) = false
same_entries same (a ∷ l) [] = false
same_entries same (a ∷ l) (b ∷ k) = same a b && same_entries same l k

-- the moves are the same
abbrev pub same_move : Move → Move → Bool
same_move k j = k.worker == j.worker && (k.from == j.from && k.to == j.to)

-- the turns are as they say, from the tenants l on
abbrev pub turns_hold : Market → Policy → List ℕ → List Turn → Bool
turns_hold m C l [] = true
turns_hold m C l (t ∷ ts) =
    same_entries same_move (unwrap_or (rotation_at m C (place l) t.worker) []) t.moves &&
    (same_entries nat_eq (moved t.moves l) t.after && turns_hold m C t.after ts)

-- the case is as it says
abbrev pub holds : Case → Bool
holds c =
    let m = c.market in
    let C = c.policy in
    (settled_rounds m C == c.rounds) &&
    (same_entries nat_eq (tabulate m.workers (settled_placement m C)) c.settled && turns_hold m C c.settled c.turns)

-- a table of two workers: its entries, and what is told of them, the fault's number and its sets, or zeros where there is none
pub record TableCase : Type 0 where
  pub entries : List ℕ
  pub told : List ℕ

-- the number of a fault and the sets that it names
abbrev pub fault_told : Option TableFault → List ℕ
fault_told None = 0 ∷ 0 ∷ 0 ∷ []
fault_told (Some (Outside z)) = 20 ∷ z ∷ 0 ∷ []
fault_told (Some (Broken law z y)) = law_number law ∷ z ∷ y ∷ []
fault_told (Some Workers) = 12 ∷ 0 ∷ 0 ∷ []
fault_told (Some Entries) = 12 ∷ 0 ∷ 0 ∷ []

-- a worked case: a market, or a table
pub data Worked : Type 0 where
  of_market : Case → Worked
  of_table : TableCase → Worked

-- the worked case is as it says
abbrev pub worked_holds : Worked → Bool
worked_holds (of_market c) = holds c
worked_holds (of_table c) = same_entries nat_eq (fault_told (table_fault (0 ∷ 1 ∷ []) c.entries)) c.told

-- so is each case of the list
abbrev pub all_hold : List Worked → Bool
all_hold [] = true
all_hold (c ∷ cs) = worked_holds c && all_hold cs

-- two workers that swap tenants, and one that gets none
abbrev pub ring : Case
ring = record {
  market = market_of 2 ((0 ∷ 1 ∷ []) ∷ (1 ∷ 0 ∷ []) ∷ (0 ∷ []) ∷ []);
  policy = ranked_policy (first_of 1 (1 ∷ 0 ∷ 2 ∷ []) ∷ first_of 1 (0 ∷ 1 ∷ []) ∷ []);
  rounds = 2;
  settled = 0 ∷ 1 ∷ 255 ∷ [];
  turns =
      record { worker = 2; moves = []; after = 0 ∷ 1 ∷ 255 ∷ [] }
      ∷ record { worker = 0; moves = go 0 0 1 ∷ go 1 1 0 ∷ []; after = 1 ∷ 0 ∷ 255 ∷ [] }
      ∷ record { worker = 0; moves = []; after = 1 ∷ 0 ∷ 255 ∷ [] }
      ∷ [];
}

-- a worker whose step puts nobody out is on no rotation
abbrev pub spare : Case
spare = record {
  market = market_of 3 ((0 ∷ 1 ∷ 2 ∷ []) ∷ (2 ∷ 0 ∷ []) ∷ []);
  policy = ranked_policy (first_of 1 (1 ∷ 0 ∷ []) ∷ first_of 1 (0 ∷ []) ∷ first_of 1 (0 ∷ 1 ∷ []) ∷ []);
  rounds = 1;
  settled = 0 ∷ 2 ∷ [];
  turns = record { worker = 0; moves = []; after = 0 ∷ 2 ∷ [] } ∷ [];
}

-- a worker that only leads into a rotation is on none, until that one was made
abbrev pub shared : Case
shared = record {
  market = market_of 3 ((0 ∷ 1 ∷ []) ∷ (0 ∷ 2 ∷ []) ∷ (1 ∷ 0 ∷ []) ∷ (2 ∷ 0 ∷ []) ∷ []);
  policy = ranked_policy (first_of 2 (2 ∷ 3 ∷ 0 ∷ 1 ∷ []) ∷ first_of 1 (0 ∷ 2 ∷ []) ∷ first_of 1 (1 ∷ 3 ∷ []) ∷ []);
  rounds = 1;
  settled = 0 ∷ 0 ∷ 1 ∷ 2 ∷ [];
  turns =
      record { worker = 0; moves = []; after = 0 ∷ 0 ∷ 1 ∷ 2 ∷ [] }
      ∷ record { worker = 1; moves = go 1 0 2 ∷ go 3 2 0 ∷ []; after = 0 ∷ 2 ∷ 1 ∷ 0 ∷ [] }
      ∷ record { worker = 0; moves = go 0 0 1 ∷ go 2 1 0 ∷ []; after = 1 ∷ 2 ∷ 0 ∷ 0 ∷ [] }
      ∷ [];
}

-- one rotation of all four workers, two of them at a tenant with caps by class
abbrev pub twice : Case
twice = record {
  market = market_of 3 ((2 ∷ 1 ∷ []) ∷ (2 ∷ 0 ∷ []) ∷ (0 ∷ 2 ∷ []) ∷ (1 ∷ 2 ∷ []) ∷ []);
  policy = joined 2 (ranked_policy (first_of 1 (1 ∷ 2 ∷ []) ∷ first_of 1 (0 ∷ 3 ∷ []) ∷ []))
      (seated_policy (1 ∷ 2 ∷ 1 ∷ 2 ∷ []) (record { overall = 2; caps = 0 ∷ 1 ∷ 1 ∷ []; list = 2 ∷ 3 ∷ 0 ∷ 1 ∷ [] } ∷ []));
  rounds = 1;
  settled = 2 ∷ 2 ∷ 0 ∷ 1 ∷ [];
  turns = record { worker = 0; moves = go 0 2 1 ∷ go 1 2 0 ∷ go 2 0 2 ∷ go 3 1 2 ∷ []; after = 1 ∷ 0 ∷ 2 ∷ 2 ∷ [] } ∷ [];
}

-- four tables: one that keeps the laws, one that chooses outside its set, and one that breaks each of two laws
abbrev pub tables_of_two : List TableCase
tables_of_two =
    record { entries = 0 ∷ 1 ∷ 2 ∷ 1 ∷ []; told = 0 ∷ 0 ∷ 0 ∷ [] }
    ∷ record { entries = 0 ∷ 3 ∷ 2 ∷ 3 ∷ []; told = 20 ∷ 1 ∷ 0 ∷ [] }
    ∷ record { entries = 0 ∷ 0 ∷ 2 ∷ 3 ∷ []; told = 21 ∷ 3 ∷ 1 ∷ [] }
    ∷ record { entries = 0 ∷ 1 ∷ 2 ∷ 0 ∷ []; told = 22 ∷ 3 ∷ 1 ∷ [] }
    ∷ []

-- the cases
abbrev pub cases : List Worked
cases = of_market ring ∷ of_market spare ∷ of_market shared ∷ of_market twice ∷ map (λ c. of_table c) tables_of_two

-- every case holds
abbrev pub CasesHold : Type 0
CasesHold = T (all_hold cases)
