-- The first so many workers of a list that are in a set: a walk with room for so many, and so a lawful choice.
use Rattle.std.specs.Prelude.{◌≡◌, ℕ, zero, suc, ◌+◌, ◌≤◌, min, Bool, true, false, cond, ◌||◌, List, [], ◌∷◌, length, take, filter, nat_lt, refl}
use Rattle.std.proofs.Common.{arith, sym, ap, ◌∙◌, subst}
use Rattle.std.proofs.Math.Path.{fun_ext}
use Rattle.std.proofs.lemmas.Bool.Decides.{nat_tests}
use Rattle.fleet.specs.Sets.{Set, Workers, among, size}
use Rattle.fleet.specs.Market.{different}
use Rattle.policy.specs.Choice.{Choice, Lawful}
use Rattle.policy.specs.Kinds.{ranked, walk, turn}
use Rattle.policy.specs.Walks.{Orderly, walk_lawful, walk_count}

-- fewer than the cap are taken
abbrev below : ℕ → List ℕ → ℕ → Bool
below cap so_far w = nat_lt (length so_far) cap

below_orderly : (cap : ℕ) → Orderly (below cap) (λ A B. length A ≤ length B)
below_orderly cap = record {
  start = omega arith;
  onward = λ A B Y Z i h w. let k = i w in grind (arith, nat_tests);
  roomy = λ A B h w r. grind (arith, nat_tests);
  fewer = λ A B h. h;
}

-- with room for m more, the walk takes the first m of the list that are in the set
walk_ranked : (cap : ℕ) (Z : Set) (l A : List ℕ) (m : ℕ) → length A + m ≡ cap → (v : ℕ) →
    among (walk (below cap) Z A l) v ≡ (among A v || among (take m (filter Z l)) v)
walk_ranked cap Z [] A zero e v = grind arith
walk_ranked cap Z [] A (suc m) e v = grind arith
walk_ranked cap Z (w ∷ ws) A zero e v =
    let stays : turn (below cap) Z A w ≡ A = grind (arith, nat_tests) in
    rw stays (walk_ranked cap Z ws A zero e v)
walk_ranked cap Z (w ∷ ws) A (suc m) e v = go (Z w) refl (walk_ranked cap Z ws (w ∷ A) m (omega arith) v) (walk_ranked cap Z ws A (suc m) e v)
  where
    go : (b : Bool) → Z w ≡ b → among (walk (below cap) Z (w ∷ A) ws) v ≡ (among (w ∷ A) v || among (take m (filter Z ws)) v) →
        among (walk (below cap) Z A ws) v ≡ (among A v || among (take (suc m) (filter Z ws)) v) →
        among (walk (below cap) Z (turn (below cap) Z A w) ws) v ≡ (among A v || among (take (suc m) (cond b (w ∷ filter Z ws) (filter Z ws))) v)
    go true h more less =
        let joins : turn (below cap) Z A w ≡ w ∷ A = grind (arith, nat_tests) in
        rw joins (grind arith)
    go false h more less =
        let stays : turn (below cap) Z A w ≡ A = grind (arith, nat_tests) in
        rw stays less

ranked_walk : (cap : ℕ) (l : List ℕ) → (λ Z. among (walk (below cap) Z [] l)) ≡ ranked cap l
ranked_walk cap l = fun_ext (λ Z. fun_ext (λ v. walk_ranked cap Z l [] cap (omega arith) v))

pub ranked_lawful : (cap : ℕ) (l : List ℕ) → different l ≡ true → Lawful (ranked cap l)
ranked_lawful cap l d = subst Lawful (ranked_walk cap l) (walk_lawful (below cap) _ (below_orderly cap) l d)

length_ranked : (cap : ℕ) (Z : Set) (l A : List ℕ) → length A ≤ cap → length (walk (below cap) Z A l) ≡ min cap (length A + length (filter Z l))
length_ranked cap Z [] A h = omega arith
length_ranked cap Z (w ∷ ws) A h = length_ranked cap Z ws (turn (below cap) Z A w) (grind (arith, nat_tests)) ∙ grind (arith, nat_tests)

pub ranked_count : (cap : ℕ) (l : List ℕ) → different l ≡ true → (Z : Set) → Workers Z → size (ranked cap l Z) ≡ min cap (length (filter Z l))
ranked_count cap l d Z small =
    ap (λ (C : Choice). size (C Z)) (sym (ranked_walk cap l)) ∙ walk_count (below cap) _ (below_orderly cap) l d Z small ∙ length_ranked cap Z l [] (omega arith) ∙ omega arith
