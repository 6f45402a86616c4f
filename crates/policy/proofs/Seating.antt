-- The walk with caps for classes, for a loop that counts those it takes, all and by class.
use Rattle.std.proofs.Common.{◌≡◌, ℕ, ◌+◌, ◌<◌, Bool, true, false, ◌&&◌, ltb, ◌⊎◌, List, ◌∷◌, length, get_or, set, sym, ap, ◌∙◌, subst, ap₂, inl, inr, arith}
use Rattle.std.proofs.lemmas.List.{length-set, get_or-set_same, get_or-set_other}
use Rattle.std.proofs.lemmas.Bool.{and_from, cases_eq, cond-true, cond-false}
use Rattle.std.proofs.lemmas.Bool.Decides.{nat_tests}
use Rattle.fleet.specs.Sets.{Set, with_worker}
use Rattle.policy.specs.Kinds.{of_class, has_seat}
use Rattle.policy.proofs.Turns.{Taken, walked, walked_more, joins, passes}

-- one more of a class
one_more : (class : ℕ → ℕ) (c w : ℕ) (T counts : List ℕ) → class w < length counts → get_or counts (class w) 0 ≡ of_class class (class w) T → get_or counts c 0 ≡ of_class class c T →
    get_or (set counts (class w) (get_or counts (class w) 0 + 1)) c 0 ≡ of_class class c (w ∷ T)
one_more class c w T counts l here there = go (cases_eq c (class w))
  where
    new : List ℕ
    new = set counts (class w) (get_or counts (class w) 0 + 1)

    at_class : get_or new (class w) 0 ≡ of_class class (class w) (w ∷ T)
    at_class = get_or-set_same counts (class w) (get_or counts (class w) 0 + 1) 0 l ∙ grind (arith, nat_tests)

    go : (c ≡ class w) ⊎ (c ≡ class w → ⊥) → get_or new c 0 ≡ of_class class c (w ∷ T)
    go (inl q) = subst (λ k. get_or new k 0 ≡ of_class class k (w ∷ T)) (sym q) at_class
    go (inr q) = get_or-set_other counts (class w) c (get_or counts (class w) 0 + 1) 0 q ∙ there ∙ grind (arith, nat_tests)

module _ (classes : List ℕ) (overall : ℕ) (caps : List ℕ) (Z : Set) (l : List ℕ) where
  abbrev class : ℕ → ℕ
  class w = get_or classes w 0

  abbrev room : List ℕ → ℕ → Bool
  room = has_seat class overall (λ c. get_or caps c 0)

  -- after the turns of the first i workers n are taken, those of A, and by-class has how many of each class
  pub record Seating (i : ℕ) (A : Set) (n : ℕ) (by_class : List ℕ) : Type 0 where
    pub members : Taken (walked room Z l i) A n
    pub eight : length by_class ≡ 8
    pub counts : (c : ℕ) → c < 8 → get_or by_class c 0 ≡ of_class class c (walked room Z l i)

  module _ (i : ℕ) (A : Set) (n : ℕ) (by_class : List ℕ) (s : Seating i A n by_class) (h : i < length l) where
    abbrev w : ℕ
    w = get_or l i 0

    -- whether there is a seat, by the counts
    pub seat_is : class w < 8 → room (walked room Z l i) w ≡ (ltb n overall && ltb (get_or by_class (class w) 0) (get_or caps (class w) 0))
    seat_is known = ap₂ (λ (a b : ℕ). ltb a overall && ltb b (get_or caps (class w) 0)) (sym s.members.1) (sym (s.counts (class w) known))

    -- the worker is taken
    pub seats_one : (B : Set) (m : ℕ) (counts : List ℕ) → w < 64 → class w < 8 → Z w ≡ true → room (walked room Z l i) w ≡ true →
        B ≡ with_worker A w → m ≡ n + 1 → counts ≡ set by_class (class w) (get_or by_class (class w) 0 + 1) → Seating (i + 1) B m counts
    seats_one B m counts small known z seat e f g = record {
      members = joins room Z l i h A B n m s.members small z seat e f;
      eight = ap length g ∙ length-set by_class (class w) (get_or by_class (class w) 0 + 1) ∙ s.eight;
      counts = λ c k. ap (λ (b : List ℕ). get_or b c 0) g ∙ one_more class c w (walked room Z l i) by_class (omega (arith, s.eight)) (s.counts (class w) known) (s.counts c k)
          ∙ ap (of_class class c) (sym (walked_more room Z l i h ∙ cond-true _ _ _ (and_from _ _ z seat)));
    }

    -- the worker is passed over
    pub seats_none : (B : Set) (m : ℕ) (counts : List ℕ) → (Z w && room (walked room Z l i) w) ≡ false → B ≡ A → m ≡ n → counts ≡ by_class → Seating (i + 1) B m counts
    seats_none B m counts z e f g = record {
      members = passes room Z l i h A B n m s.members z e f;
      eight = ap length g ∙ s.eight;
      counts = λ c k. ap (λ (b : List ℕ). get_or b c 0) g ∙ s.counts c k ∙ ap (of_class class c) (sym (walked_more room Z l i h ∙ cond-false _ _ _ z));
    }
