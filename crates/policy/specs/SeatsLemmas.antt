-- Walks with an overall cap and caps for classes are lawful.
use Rattle.std.specs.Prelude.{◌≡◌, ℕ, zero, suc, ◌+◌, ◌<◌, ◌≤◌, min, Bool, true, cond, ◌⊎◌, List, [], ◌∷◌, length, filter, ◌==◌, slice_index, refl}
use Rattle.std.proofs.Common.{arith, ◌∙◌, inl, inr}
use Rattle.std.proofs.lemmas.Bool.{cases_lt}
use Rattle.std.proofs.lemmas.Bool.Decides.{nat_tests}
use Rattle.fleet.specs.Sets.{Set, Within, Workers, sum_below, size}
use Rattle.fleet.specs.Market.{different}
use Rattle.fleet.proofs.Sizes.{sum_add, sum_le, sum_indicator}
use Rattle.policy.specs.Choice.{Lawful}
use Rattle.policy.specs.Kinds.{seated, walk, turn, of_class, has_seat}
use Rattle.policy.specs.Walks.{Orderly, walk_lawful, walk_count}

nobody_counted : (k : ℕ) → sum_below k (λ c. 0) ≡ 0
nobody_counted zero = refl
nobody_counted (suc k) = omega (arith, nobody_counted k)

-- every worker is counted in its class
by_class : (class : ℕ → ℕ) (k : ℕ) → ((w : ℕ) → class w < k) → (A : List ℕ) → sum_below k (λ c. of_class class c A) ≡ length A
by_class class k small [] = nobody_counted k
by_class class k small (w ∷ ws) =
    let i = by_class class k small ws in
    let s = sum_add k (λ c. cond (class w == c) 1 0) (λ c. of_class class c ws) in
    let o = sum_indicator k (class w) in
    let l = small w in
    grind (arith, nat_tests)

module _ (class : ℕ → ℕ) (overall : ℕ) (cap_of : ℕ → ℕ) (k : ℕ) (small : (w : ℕ) → class w < k) where
  abbrev room : List ℕ → ℕ → Bool
  room = has_seat class overall cap_of

  -- B has the overall cap, or of each class at least as many as A
  abbrev Behind : List ℕ → List ℕ → Type 0
  Behind A B = (length A ≤ overall) × ((overall ≤ length B) ⊎ ((c : ℕ) → of_class class c A ≤ of_class class c B))

  onward : (A B : List ℕ) (Y Z : Set) → Within Y Z → Behind A B → (w : ℕ) → Behind (turn room Y A w) (turn room Z B w)
  onward A B Y Z i (few, full) w = (grind (arith, nat_tests), go full (cases_lt (length B) overall))
    where
      go : (overall ≤ length B) ⊎ ((c : ℕ) → of_class class c A ≤ of_class class c B) → (length B < overall) ⊎ (overall ≤ length B) →
          (overall ≤ length (turn room Z B w)) ⊎ ((c : ℕ) → of_class class c (turn room Y A w) ≤ of_class class c (turn room Z B w))
      go f (inr l) = inl (grind arith)
      go (inl l') (inl l) = absurd (omega arith)
      go (inr f) (inl l) = inr (λ c. let here = f (class w) in let there = f c in let j = i w in grind (arith, nat_tests))

  -- as many of each class are as many
  fewer : (A B : List ℕ) → Behind A B → length A ≤ length B
  fewer A B (few, inl full) = omega arith
  fewer A B (few, inr f) = omega (arith, by_class class k small A, by_class class k small B, sum_le k _ _ (λ c l. f c))

  roomy : (A B : List ℕ) → Behind A B → (w : ℕ) → room B w ≡ true → room A w ≡ true
  roomy A B (few, inl full) w r = grind (arith, nat_tests)
  roomy A B (few, inr f) w r = let here = f (class w) in let l = fewer A B (few, inr f) in grind (arith, nat_tests)

  orderly : Orderly room Behind
  orderly = record { start = (omega arith, inr (λ c. omega arith)); onward = onward; roomy = roomy; fewer = fewer }

  -- how many are taken: the walk has taken A, and B were in the set so far

  -- of each class at most the cap, and that many or those who were there unless all seats are taken
  abbrev Filled : List ℕ → List ℕ → Type 0
  Filled A B = (length A ≤ overall) × ((c : ℕ) → of_class class c A ≤ min (cap_of c) (of_class class c B)) × ((overall ≤ length A) ⊎ ((c : ℕ) → min (cap_of c) (of_class class c B) ≤ of_class class c A))

  filled_on : (A B : List ℕ) (Z : Set) → Filled A B → (w : ℕ) → Filled (turn room Z A w) (turn (λ _ _. true) Z B w)
  filled_on A B Z (few, low, full) w = (grind (arith, nat_tests), (λ c. let here = low c in grind (arith, nat_tests)), go full (cases_lt (length A) overall))
    where
      go : (overall ≤ length A) ⊎ ((c : ℕ) → min (cap_of c) (of_class class c B) ≤ of_class class c A) → (length A < overall) ⊎ (overall ≤ length A) →
          (overall ≤ length (turn room Z A w)) ⊎ ((c : ℕ) → min (cap_of c) (of_class class c (turn (λ _ _. true) Z B w)) ≤ of_class class c (turn room Z A w))
      go f (inr l) = inl (grind arith)
      go (inl l') (inl l) = absurd (omega arith)
      go (inr f) (inl l) = inr (λ c. let here = f c in grind (arith, nat_tests))

  filled : (Z : Set) (l A B : List ℕ) → Filled A B → Filled (walk room Z A l) (walk (λ _ _. true) Z B l)
  filled Z [] A B f = f
  filled Z (w ∷ ws) A B f = filled Z ws (turn room Z A w) (turn (λ _ _. true) Z B w) (filled_on A B Z f w)

  -- the workers of a class who are in the set, counted on the walk
  offered : (c : ℕ) (Z : Set) (l B : List ℕ) → of_class class c (walk (λ _ _. true) Z B l) ≡ of_class class c B + of_class class c (filter Z l)
  offered c Z [] B = omega arith
  offered c Z (w ∷ ws) B = offered c Z ws (turn (λ _ _. true) Z B w) ∙ grind (arith, nat_tests)

  length_seated : (Z : Set) (l : List ℕ) → length (walk room Z [] l) ≡ min overall (sum_below k (λ c. min (cap_of c) (of_class class c (filter Z l))))
  length_seated Z l = go (filled Z l [] [] (omega arith, (λ c. omega arith), inr (λ c. omega arith)))
    where
      A : List ℕ
      A = walk room Z [] l

      seats : ℕ → ℕ
      seats c = min (cap_of c) (of_class class c (filter Z l))

      go : Filled A (walk (λ _ _. true) Z [] l) → length A ≡ min overall (sum_below k seats)
      go (few, low, inl full) = omega (arith, by_class class k small A, sum_le k (λ c. of_class class c A) seats (λ c l'. omega (arith, low c, offered c Z l [])))
      go (few, low, inr full) =
          omega (
            arith,
            by_class class k small A,
            sum_le k (λ c. of_class class c A) seats (λ c l'. omega (arith, low c, offered c Z l [])),
            sum_le k seats (λ c. of_class class c A) (λ c l'. omega (arith, full c, offered c Z l [])),
          )

pub seated_lawful : (classes : List ℕ) (overall : ℕ) (caps l : List ℕ) → ((w : ℕ) → slice_index classes w < 8) → different l ≡ true → Lawful (seated classes overall caps l)
seated_lawful classes overall caps l small d =
    walk_lawful _ _ (orderly (λ w. slice_index classes w) overall (λ c. slice_index caps c) 8 small) l d

pub seated_count : (classes : List ℕ) (overall : ℕ) (caps l : List ℕ) → ((w : ℕ) → slice_index classes w < 8) → different l ≡ true → (Z : Set) → Workers Z →
    size (seated classes overall caps l Z) ≡ min overall (sum_below 8 (λ c. min (slice_index caps c) (of_class (λ w. slice_index classes w) c (filter Z l))))
seated_count classes overall caps l small d Z few =
    walk_count _ _ (orderly (λ w. slice_index classes w) overall (λ c. slice_index caps c) 8 small) l d Z few
    ∙ length_seated (λ w. slice_index classes w) overall (λ c. slice_index caps c) 8 small Z l
