-- The tenants of a roster as a list, and what adding one answers and leaves.
use Rattle.std.specs.Prelude.{ℕ, Bool, cond, List, [], ◌∷◌, ◌++◌, map, length, take, Ok, Err, Result, ◌==◌, nat_lt}
use Rattle.policy.specs.declared.roster.Roster.{Roster}
use Rattle.policy.specs.declared.refusal.PolicyRefusal.{PolicyRefusal}
use Rattle.policy.specs.declared.refusal.PolicyRefusal.TheVariants.{Cap, Class, Full}

-- the tenants by number
abbrev pub held : {T C : Type 0} → Roster T C → List T
held r = take r.count r.tenants

-- the rules of the tenants, by number
abbrev pub rules : {T C R : Type 0} → (T → R) → Roster T C → List R
rules rule r = map rule (held r)

-- the refusals by number
abbrev pub refusal : PolicyRefusal → ℕ
refusal Cap = 1
refusal Class = 2
refusal Full = 3

-- 0 for what was done, else the refusal's number
abbrev pub push_answer : Result (Unit {0}) PolicyRefusal → ℕ
push_answer (Ok _) = 0
push_answer (Err e) = refusal e

-- the answer where a tenant is to be added: its caps are to be in range, and then there are to be fewer than sixteen
abbrev pub adding : {T : Type 0} → Bool → List T → ℕ
adding in_range tenants = cond in_range (cond (nat_lt (length tenants) 16) 0 3) 1

-- the tenants after that: one more where it is answered 0, else the same
abbrev pub added : {T : Type 0} → Bool → List T → T → List T
added in_range tenants tenant = cond (adding in_range tenants == 0) (tenants ++ (tenant ∷ [])) tenants
