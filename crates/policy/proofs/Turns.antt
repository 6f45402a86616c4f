-- The turns of a walk, one by one, for a loop that goes down the list.
use Rattle.std.proofs.Common.{◌≡◌, ℕ, ◌+◌, ◌<◌, ◌≤◌, Bool, true, false, ◌&&◌, List, [], ◌∷◌, ◌++◌, length, get_or, take, sym, refl, ap, ◌∙◌, subst, arith}
use mathlib.Core.Path.{fun_ext}
use Rattle.std.proofs.lemmas.List.{take_more, take_all}
use Rattle.std.proofs.lemmas.Bool.{and_from, cond-true, cond-false}
use Rattle.std.proofs.lemmas.Bool.Decides.{nat_tests}
use Rattle.fleet.specs.Sets.{Set, among, with_worker}
use Rattle.policy.specs.Kinds.{walk, turn}

-- those taken are the members of A, and there are n of them
abbrev pub Taken : List ℕ → Set → ℕ → Type 0
Taken so_far A n = (A ≡ among so_far) × (n ≡ length so_far)

walk_push : (room : List ℕ → ℕ → Bool) (Z : Set) (so_far l : List ℕ) (w : ℕ) → walk room Z so_far (l ++ (w ∷ [])) ≡ turn room Z (walk room Z so_far l) w
walk_push room Z so_far [] w = refl
walk_push room Z so_far (x ∷ l) w = walk_push room Z (turn room Z so_far x) l w

-- who is taken once the first i of the list had their turns
abbrev pub walked : (List ℕ → ℕ → Bool) → Set → List ℕ → ℕ → List ℕ
walked room Z l i = walk room Z [] (take i l)

-- at the end all had their turn
pub walked_all : (room : List ℕ → ℕ → Bool) (Z : Set) (l : List ℕ) (i : ℕ) → length l ≤ i → walked room Z l i ≡ walk room Z [] l
walked_all room Z l i h = ap (walk room Z []) (take_all i l h)

module _ (room : List ℕ → ℕ → Bool) (Z : Set) (l : List ℕ) (i : ℕ) (h : i < length l) where
  -- the next worker has its turn
  pub walked_more : walked room Z l (i + 1) ≡ turn room Z (walked room Z l i) (get_or l i 0)
  walked_more = ap (walk room Z []) (take_more l i 0 h) ∙ walk_push room Z [] (take i l) (get_or l i 0)

  -- a worker of the set joins those who are taken, where there is room
  pub joins : (A B : Set) (n m : ℕ) → Taken (walked room Z l i) A n → get_or l i 0 < 64 → Z (get_or l i 0) ≡ true → room (walked room Z l i) (get_or l i 0) ≡ true →
      B ≡ with_worker A (get_or l i 0) → m ≡ n + 1 → Taken (walked room Z l (i + 1)) B m
  joins A B n m (a, b) small z r e f =
      subst (λ (T : List ℕ). Taken T B m) (sym (walked_more ∙ cond-true _ _ _ (and_from _ _ z r)))
      (e ∙ ap (λ (C : Set). with_worker C (get_or l i 0)) a ∙ more (walked room Z l i) (get_or l i 0) small, omega arith)
    where
      more : (T : List ℕ) (w : ℕ) → w < 64 → with_worker (among T) w ≡ among (w ∷ T)
      more T w small = fun_ext (λ v. grind (arith, nat_tests))

  -- any other passes
  pub passes : (A B : Set) (n m : ℕ) → Taken (walked room Z l i) A n → (Z (get_or l i 0) && room (walked room Z l i) (get_or l i 0)) ≡ false →
      B ≡ A → m ≡ n → Taken (walked room Z l (i + 1)) B m
  passes A B n m (a, b) z e f = subst (λ (T : List ℕ). Taken T B m) (sym (walked_more ∙ cond-false _ _ _ z)) (e ∙ a, f ∙ b)
