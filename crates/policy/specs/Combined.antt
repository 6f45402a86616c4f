-- Policies made of other policies.
use Rattle.std.specs.Prelude.{ℕ, ◌-◌, cond, nat_lt}
use Rattle.fleet.specs.Sets.{Set, nobody, minus}
use Rattle.policy.specs.Choice.{Policy}

-- the first n tenants choose as those of C, the others up to 16 as those of D, who are numbered from n on
abbrev pub joined : ℕ → Policy → Policy → Policy
joined n C D t Z = cond (nat_lt t n) (C t Z) (cond (nat_lt t 16) (D (t - n) Z) nobody)

-- every tenant chooses as under C, out of those who are not in quarantine
abbrev pub quarantined : Set → Policy → Policy
quarantined Q C t Z = C t (minus Z Q)
