-- The market that the workers' lists speak of, and what making and changing lists answers and leaves.
use Rattle.std.specs.Prelude.{ℕ, cond, ◌&&◌, List, [], Ok, Err, Result, ◌==◌, nat_le, nat_lt}
use Rattle.fleet.specs.Sets.{all_under}
use Rattle.fleet.specs.Market.{Market}
use Rattle.fleet.specs.Rankings.{listed, row}
use Rattle.fleet.specs.declared.lists.Lists.{Lists}
use Rattle.fleet.specs.declared.lists.ListsRefusal.{ListsRefusal}
use Rattle.fleet.specs.declared.lists.ListsRefusal.TheVariants.{Workers, Tenants, Worker, Tenant}

-- the counts, and each worker's list
abbrev pub market : Lists → Market
market l = record { workers = l.workers; tenants = l.tenants; list = λ w. listed (row l.rows w) }

-- the refusals by number
abbrev pub lists_refusal : ListsRefusal → ℕ
lists_refusal Workers = 1
lists_refusal Tenants = 2
lists_refusal Worker = 3
lists_refusal Tenant = 4

-- the market of lists that were made, else the refusal's number
abbrev pub new_answer : Result Lists ListsRefusal → Result Market ℕ
new_answer (Ok l) = Ok (market l)
new_answer (Err e) = Err (lists_refusal e)

-- so many workers with empty lists, and so many tenants
abbrev pub no_lists : ℕ → ℕ → Market
no_lists w t = record { workers = w; tenants = t; list = λ _. [] }

-- the answer where lists for w workers and t tenants are to be made
abbrev pub making : ℕ → ℕ → Result Market ℕ
making w t = cond (nat_le 1 w && nat_le w 64) (cond (nat_le 1 t && nat_le t 16) (Ok (no_lists w t)) (Err 2)) (Err 1)

-- 0 for a list that was set, else the refusal's number
abbrev pub set_answer : Result (Unit {0}) ListsRefusal → ℕ
set_answer (Ok _) = 0
set_answer (Err e) = lists_refusal e

-- the answer where worker w is to have the list l
abbrev pub setting : Market → ℕ → List ℕ → ℕ
setting m w l = cond (nat_lt w m.workers) (cond (all_under m.tenants l) 0 4) 3

-- the market m with the list l for worker w
abbrev pub with_list : Market → ℕ → List ℕ → Market
with_list m w l = record { workers = m.workers; tenants = m.tenants; list = λ v. cond (v == w) l (m.list v) }

-- the market after that: with the list where it is answered 0, else the same
abbrev pub replaced : Market → ℕ → List ℕ → Market
replaced m w l = cond (setting m w l == 0) (with_list m w l) m
