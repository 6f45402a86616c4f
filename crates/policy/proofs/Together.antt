-- What a tenant chooses out of two sets together, by the laws.
use Rattle.std.proofs.Common.{◌≡◌, ◌≤◌, arith}
use mathlib.Core.Path.{fun_ext}
use Rattle.fleet.specs.Sets.{Set, Within, Workers, union, minus, size}
use Rattle.fleet.specs.Members.{members}
use Rattle.fleet.specs.declared.worker_set.WorkerSet.{WorkerSet}
use Rattle.fleet.proofs.Same.{members_workers}
use Rattle.fleet.proofs.Sizes.{same_at}
use Rattle.policy.specs.Choice.{Choice, Lawful}
use Rattle.policy.specs.Laws.{both}

pub both_workers : (a b : WorkerSet) → Workers (union (members a) (members b))
both_workers a b w h = let p = members_workers a w in let q = members_workers b w in grind arith

module _ {C : Choice} (law : Lawful C) (A B : Set) (small : Workers (union A B)) where
  -- those who are not of A are of B
  pub stay_is : minus (C (union A B)) (minus B A) ≡ both (C (union A B)) A
  stay_is = fun_ext (λ w. let i = law.inside (union A B) small w in grind arith)

  pub stay_alone : (S : Set) → S ≡ both (C (union A B)) A → Within S (C A)
  stay_alone S e w h = let s = law.substitutable (union A B) A small (λ v i. grind arith) w in let k = same_at e w in grind arith

  pub never_fewer : size (C A) ≤ size (C (union A B))
  never_fewer = law.monotone (union A B) A small (λ v i. grind arith)
