-- A walk down a list of different workers is lawful where a larger set never leaves less taken.
use Rattle.std.specs.Prelude.{◌≡◌, ℕ, suc, ◌<◌, ◌≤◌, Bool, true, false, not, List, [], ◌∷◌, length, refl}
use Rattle.std.proofs.Common.{arith, ap, ◌∙◌}
use Rattle.std.proofs.Math.Path.{fun_ext}
use Rattle.std.proofs.lemmas.Bool.{and_parts}
use Rattle.std.proofs.lemmas.Bool.Decides.{nat_tests}
use Rattle.fleet.specs.Sets.{Set, Within, Workers, among, insert, size}
use Rattle.fleet.specs.Market.{different}
use Rattle.fleet.proofs.Sizes.{size_insert}
use Rattle.policy.specs.Choice.{Inside, Substitutable, Monotone, Lawful}
use Rattle.policy.specs.Kinds.{turn, walk}
use Rattle.policy.specs.Choose.{consistent_from}

-- one more than the others is taken
size_more : (w : ℕ) (ws : List ℕ) → w < 64 → among ws w ≡ false → size (among (w ∷ ws)) ≡ suc (size (among ws))
size_more w ws l out = ap size (fun_ext same) ∙ size_insert (among ws) w l out
  where
    same : (v : ℕ) → among (w ∷ ws) v ≡ insert (among ws) w v
    same v = grind (arith, nat_tests)

size_none : size (among []) ≡ 0
unfolding size
size_none = refl

-- those taken out of a smaller set are behind those taken out of a larger one
pub record Orderly (room : List ℕ → ℕ → Bool) (Behind : List ℕ → List ℕ → Type 0) : Type 0 where
  pub start : Behind [] []
  pub onward : (A B : List ℕ) (Y Z : Set) → Within Y Z → Behind A B → (w : ℕ) → Behind (turn room Y A w) (turn room Z B w)
  pub roomy : (A B : List ℕ) → Behind A B → (w : ℕ) → room B w ≡ true → room A w ≡ true
  pub fewer : (A B : List ℕ) → Behind A B → length A ≤ length B

module _ (room : List ℕ → ℕ → Bool) (Behind : List ℕ → List ℕ → Type 0) (o : Orderly room Behind) where
  walk_inside : (Z : Set) (A l : List ℕ) → Within (among A) Z → Within (among (walk room Z A l)) Z
  walk_inside Z A [] h = h
  walk_inside Z A (w ∷ ws) h = walk_inside Z (turn room Z A w) ws (λ v i. let k = h v in grind (arith, nat_tests))

  walk_behind : (Y Z : Set) → Within Y Z → (A B l : List ℕ) → Behind A B → Behind (walk room Y A l) (walk room Z B l)
  walk_behind Y Z i A B [] h = h
  walk_behind Y Z i A B (w ∷ ws) h = walk_behind Y Z i (turn room Y A w) (turn room Z B w) ws (o.onward A B Y Z i h w)

  walk_keeps : (Y Z : Set) → Within Y Z → (v : ℕ) → Y v ≡ true → (A B l : List ℕ) → Behind A B →
      (among B v ≡ true → among A v ≡ true) → among (walk room Z B l) v ≡ true → among (walk room Y A l) v ≡ true
  walk_keeps Y Z i v y A B [] h k = k
  walk_keeps Y Z i v y A B (w ∷ ws) h k =
      let r = o.roomy A B h w in
      walk_keeps Y Z i v y (turn room Y A w) (turn room Z B w) ws (o.onward A B Y Z i h w) (λ e. grind (arith, nat_tests))

  walk_size : (Z : Set) → Workers Z → (A l : List ℕ) → different l ≡ true → ((v : ℕ) → among l v ≡ true → among A v ≡ false) →
      size (among A) ≡ length A → size (among (walk room Z A l)) ≡ length (walk room Z A l)
  walk_size Z small A [] d apart e = e
  walk_size Z small A (w ∷ ws) d apart e =
      walk_size Z small (turn room Z A w) ws (and_parts (not (among ws w)) (different ws) d).1
      (λ v i. let p = (and_parts (not (among ws w)) (different ws) d).0 in let q = apart v in grind (arith, nat_tests))
      (let p = small w in let q = size_more w A in let s = apart w in grind (arith, nat_tests))

  -- as many are chosen as were taken
  pub walk_count : (l : List ℕ) → different l ≡ true → (Z : Set) → Workers Z → size (among (walk room Z [] l)) ≡ length (walk room Z [] l)
  walk_count l d Z small = walk_size Z small [] l d (λ v h. refl) size_none

  -- what is taken from a list of different workers
  pub walk_lawful : (l : List ℕ) → different l ≡ true → Lawful (λ Z. among (walk room Z [] l))
  walk_lawful l d = record {
    inside = inside;
    substitutable = substitutable;
    monotone = monotone;
    consistent = consistent_from _ inside substitutable monotone;
  }
    where
      inside : Inside (λ Z. among (walk room Z [] l))
      inside Z small = walk_inside Z [] l (λ w h. grind arith)

      substitutable : Substitutable (λ Z. among (walk room Z [] l))
      substitutable Z Y small i w h y = walk_keeps Y Z i w y [] [] l o.start (λ e. e) h

      monotone : Monotone (λ Z. among (walk room Z [] l))
      monotone Z Y small i =
          let a = walk_count l d Y (λ w h. small w (i w h)) in
          let b = walk_count l d Z small in
          let k = o.fewer _ _ (walk_behind Y Z i [] [] l o.start) in
          omega arith
