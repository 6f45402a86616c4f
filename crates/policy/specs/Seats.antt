-- What a Seated policy holds, and what making one answers.
use Rattle.std.specs.Prelude.{ℕ, cond, List, [], Ok, Err, Result}
use Rattle.fleet.specs.Sets.{all_under}
use Rattle.fleet.specs.Rankings.{listed}
use Rattle.policy.specs.Kinds.{SeatedRule}
use Rattle.policy.specs.Rosters.{rules, refusal}
use Rattle.policy.specs.declared.refusal.PolicyRefusal.{PolicyRefusal}
use Rattle.policy.specs.declared.seated.SeatedTenant.{SeatedTenant}
use Rattle.policy.specs.declared.seated.Classes.{Classes}
use Rattle.policy.specs.declared.roster.Roster.{Roster}

-- the caps and the list of a tenant
abbrev pub seat_rule : SeatedTenant → SeatedRule
seat_rule t = record { overall = t.overall; caps = t.caps; list = listed t.list }

-- the policy of such tenants, who have the classes of the workers in common
abbrev pub Seated : Type 0
Seated = Roster SeatedTenant Classes

-- the tenants of the policy, by number
abbrev pub seats : Seated → List SeatedRule
seats = rules seat_rule

-- the classes and tenants of a policy that was made, else the refusal's number
abbrev pub new_answer : Result Seated PolicyRefusal → Result (List ℕ × List SeatedRule) ℕ
new_answer (Ok p) = Ok (p.common.classes, seats p)
new_answer (Err e) = Err (refusal e)

-- the answer where a policy is to be made for these classes: they are to be below eight, and it has no tenants yet
abbrev pub making : List ℕ → Result (List ℕ × List SeatedRule) ℕ
making classes = cond (all_under 8 classes) (Ok (classes, [])) (Err 2)
