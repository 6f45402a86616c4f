-- The table over no workers that chooses nobody has no fault.
use Rattle.std.proofs.Common.{◌≡◌, ℕ, ◌^◌, false, List, length, take, replicate, is_some, sym, refl, ap, subst, arith}
use lib.Count.{ones}
use Rattle.policy.specs.Search.{seek, seek_pair}
use Rattle.policy.specs.Faults.{table_fault}
use Rattle.policy.proofs.table_policy.TableTenantTenant.blank.Goals as goal

pub invariant_of-result : goal.invariant_of-result
unfolding seek seek_pair ones
invariant_of-result c =
    let none = c.empty.ensures in
    let sound = λ (ws : List ℕ). is_some (table_fault ws (take (2 ^ length ws) (replicate 256 0))) ≡ false in
    record { few = omega (arith, ap length none); room = refl; sound = subst sound (sym none) refl }
