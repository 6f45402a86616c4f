-- A walk along the successors, one worker more, and what the set that it gathers tells.
use Rattle.std.proofs.Common.{◌≡◌, ℕ, suc, ◌<◌, Bool, true, false, eqb, List, [], is_some, Some, None, Option, sym, refl, ap, ◌∙◌, arith}
use mathlib.Core.Path.{fun_ext}
use Rattle.std.proofs.lemmas.Bool.Decides.{nat_tests}
use Rattle.fleet.specs.Sets.{Set, with_worker, nobody}
use Rattle.fleet.specs.Market.{Market, Placement}
use Rattle.fleet.specs.declared.worker_set.WorkerSet.{WorkerSet}
use Rattle.fleet.proofs.First.{SomeInj, Some≢None}
use Rattle.policy.specs.Choice.{Policy}
use Rattle.std.specs.List.{find}
use Rattle.matching.specs.Stepping.{candidate, step, successor}
use Rattle.fleet.specs.declared.Move.{Move}
use Rattle.rotation.specs.Rotation.{target}
use Rattle.rotation.specs.Moves.{carried, walk, walk_next, walk_turn, walk_from, moves_of_walk, rotation_at, on_rotation}
use Rattle.rotation.specs.Walking.{found_set, gathered}
use Rattle.rotation.proofs.Rotates.{carried_same}

-- the worker v goes from the walk to the set
gathered_from : (A : Set) (v : ℕ) → v < 64 → (o : Option (List ℕ)) → gathered A (walk_from v o) ≡ gathered (with_worker A v) o
gathered_from A v l None = refl
gathered_from A v l (Some us) = ap Some (fun_ext (λ y. grind (arith, nat_tests)))

module _ (m : Market) (C : Policy) (x : Placement) (w k v : ℕ) (A : Set) where
  -- the walk stops where there is no successor
  pub walk_none : successor m C x v ≡ None → gathered A (walk m C x w (suc k) v) ≡ None
  unfolding walk
  walk_none e = ap (λ (o : Option ℕ). gathered A (walk_next w v (λ u. walk m C x w k u) o)) e

  -- it ends where the successor is the worker that is looked for
  pub walk_last : (u : ℕ) → v < 64 → successor m C x v ≡ Some u → eqb u w ≡ true → gathered A (walk m C x w (suc k) v) ≡ Some (with_worker A v)
  unfolding walk
  walk_last u l e q =
      ap (λ (o : Option ℕ). gathered A (walk_next w v (λ u. walk m C x w k u) o)) e ∙
      ap (λ (b : Bool). gathered A (walk_turn v u (λ u. walk m C x w k u) b)) q ∙ ap Some (fun_ext (λ y. grind (arith, nat_tests)))

  -- and else goes on from there
  pub walk_on : (u : ℕ) → v < 64 → successor m C x v ≡ Some u → eqb u w ≡ false →
      gathered A (walk m C x w (suc k) v) ≡ gathered (with_worker A v) (walk m C x w k u)
  unfolding walk
  walk_on u l e q =
      ap (λ (o : Option ℕ). gathered A (walk_next w v (λ u. walk m C x w k u) o)) e ∙
      ap (λ (b : Bool). gathered A (walk_turn v u (λ u. walk m C x w k u) b)) q ∙ gathered_from A v l (walk m C x w k u)

pub walk_end : (m : Market) (C : Policy) (x : Placement) (w v : ℕ) (A : Set) → gathered A (walk m C x w 0 v) ≡ None
unfolding walk
walk_end m C x w v A = refl

-- a walk is found exactly where the worker is on a rotation
pub walk_tells : (m : Market) (C : Policy) (x : Placement) (w : ℕ) (r : Option WorkerSet) → found_set r ≡ gathered nobody (walk m C x w 64 w) →
    is_some r ≡ on_rotation m C x w
walk_tells m C x w r e = go r (walk m C x w 64 w) e
  where
    go : (r : Option WorkerSet) (o : Option (List ℕ)) → found_set r ≡ gathered nobody o → is_some r ≡ is_some (moves_of_walk m C x o)
    go None None e = refl
    go None (Some us) e = absurd (Some≢None (sym e))
    go (Some s) None e = absurd (Some≢None e)
    go (Some s) (Some us) e = refl

-- the moves of the set that a walk gathered, where y has the tenants that its workers step to, are the rotation
module _ (m : Market) (C : Policy) (x : Placement) (w : ℕ) where
  pub walk_missing : None ≡ gathered nobody (walk m C x w 64 w) → None ≡ rotation_at m C x w
  walk_missing e = go (walk m C x w 64 w) e
    where
      go : (o : Option (List ℕ)) → None ≡ gathered nobody o → None ≡ moves_of_walk m C x o
      go None e = refl
      go (Some us) e = absurd (Some≢None (sym e))

  pub walk_moves : (A : Set) (y : Placement) (r : List Move) → Some A ≡ gathered nobody (walk m C x w 64 w) →
      ((v : ℕ) → A v ≡ true → y v ≡ target m C x v) → r ≡ carried x y A 64 → Some r ≡ rotation_at m C x w
  walk_moves A y r e goes is = go (walk m C x w 64 w) e
    where
      go : (o : Option (List ℕ)) → Some A ≡ gathered nobody o → Some r ≡ moves_of_walk m C x o
      go None e = absurd (Some≢None e)
      go (Some us) e =
          ap Some (is ∙ carried_same x y x (target m C x) A (λ v h. (refl, goes v h)) 64 ∙ ap (λ (S : Set). carried x (target m C x) S 64) (SomeInj e))

  -- a worker with an empty list is on no rotation
  pub rotation_past : m.list w ≡ [] → None ≡ rotation_at m C x w
  rotation_past e = walk_missing (sym (walk_none m C x w 63 w nobody (rw (none, successor))))
    where
      none : step m C x w ≡ None
      none = ap (find (candidate m C x w)) e
