-- Rotations that go down leave room: each move takes a worker at least one place down, and nobody goes further than 15, so 480 can stand.
use Rattle.std.proofs.Common.{◌≡◌, ℕ, zero, suc, ◌+◌, ◌*◌, ◌<◌, ◌≤◌, min, true, cond, ◌&&◌, eqb, ltb, List, [], ◌∷◌, ◌++◌, length, Some, sum_by, sym, refl, ap, ◌∙◌, subst, inl, inr, arith, get_or-set_other, get_or-set_same}
use Rattle.std.specs.List.{slice_get}
use Rattle.std.proofs.lemmas.List.Sums.{sum_by-cons}
use Rattle.std.proofs.lemmas.Bool.{and_parts, and_from, ltb-true, lt-ltb, cases_eq}
use Rattle.std.proofs.lemmas.Bool.Decides.{nat_tests}
use Rattle.fleet.specs.Sets.{sum_below}
use Rattle.fleet.specs.Market.{Market, Placement, rank}
use Rattle.fleet.specs.declared.Move.{Move}
use Rattle.fleet.proofs.First.{SomeInj, Some≢None}
use Rattle.fleet.proofs.Sizes.{sum_add, sum_le, sum_indicator}
use Rattle.matching.specs.Entries.{place}
use Rattle.rotation.specs.Moves.{moved}
use Rattle.rotation.proofs.Moved.{Leaves, Fits, length_moved}
use Rattle.runs.specs.States.{Rotation}
use Rattle.runs.specs.Descent.{goes_down, descends, leads, led_to}

-- what a move that goes down says
pub record GoesDown (m : Market) (x : Placement) (n : ℕ) (k : Move) : Type 0 where
  pub from_on : n ≤ k.worker
  pub worker : k.worker < 64
  pub leaves : x k.worker ≡ k.from
  pub down : rank (m.list k.worker) k.from < rank (m.list k.worker) k.to
  pub few : rank (m.list k.worker) k.to < 16

-- one term is larger, and none is smaller
sum_one : (n : ℕ) (f g : ℕ → ℕ) (a : ℕ) → ((w : ℕ) → f w ≤ g w) → a < n → f a < g a → suc (sum_below n f) ≤ sum_below n g
sum_one n f g a h la ha =
    let each = sum_le n (λ w. f w + cond (eqb a w) 1 0) g (λ w l. let k = h w in grind (arith, nat_tests)) in
    let q = sum_add n f (λ w. cond (eqb a w) 1 0) in
    let i = sum_indicator n a in
    grind (arith, nat_tests)

-- a bound on each term bounds the sum
sum_most : (n : ℕ) (f : ℕ → ℕ) → ((w : ℕ) → f w ≤ 15) → sum_below n f ≤ 15 * n
sum_most zero f h = omega arith
sum_most (suc n) f h = omega (arith, sum_most n f h, h n)

module _ (m : Market) where
  pub goes_down_says : (x : Placement) (n : ℕ) (k : Move) → goes_down m x n k ≡ true → GoesDown m x n k
  unfolding goes_down
  goes_down_says x n k e = record { from_on = grind (arith, nat_tests); worker = grind (arith, nat_tests); leaves = grind (arith, nat_tests); down = grind (arith, nat_tests); few = grind (arith, nat_tests) }

  pub goes_down_from : (x : Placement) (n : ℕ) (k : Move) → GoesDown m x n k → goes_down m x n k ≡ true
  unfolding goes_down
  goes_down_from x n k f =
      let a = f.from_on in
      let b = f.worker in
      let c = f.leaves in
      let d = f.down in
      let e = f.few in
      grind (arith, nat_tests)

  -- the first move goes down, and so do the others
  pub first_down : (x : Placement) (n : ℕ) (k : Move) (ks : List Move) → descends m x n (k ∷ ks) ≡ true →
      GoesDown m x n k × (descends m x (suc k.worker) ks ≡ true)
  unfolding descends
  first_down x n k ks e =
      let p = and_parts (goes_down m x n k) (descends m x (suc k.worker) ks) e in
      (goes_down_says x n k p.0, p.1)

  pub more_down : (x : Placement) (n : ℕ) (k : Move) (ks : List Move) → GoesDown m x n k → descends m x (suc k.worker) ks ≡ true → descends m x n (k ∷ ks) ≡ true
  unfolding descends
  more_down x n k ks f e = and_from (goes_down m x n k) (descends m x (suc k.worker) ks) (goes_down_from x n k f) e

  pub none_down : (x : Placement) (n : ℕ) → descends m x n [] ≡ true
  unfolding descends
  none_down x n = refl

  -- there are at most 64 such moves
  pub descends_few : (x : Placement) (n : ℕ) (r : List Move) → descends m x n r ≡ true → n ≤ 64 → n + length r ≤ 64
  descends_few x n [] e h = omega arith
  descends_few x n (k ∷ ks) e h =
      let (f, g) = first_down x n k ks e in
      omega (arith, f.from_on, f.worker, descends_few x (suc k.worker) ks g (omega (arith, f.worker)))

  pub descends_fits : (x : Placement) (n : ℕ) (r : List Move) → descends m x n r ≡ true → Fits 64 r
  descends_fits x n [] e = tt
  descends_fits x n (k ∷ ks) e = let (f, g) = first_down x n k ks e in (f.worker, descends_fits x (suc k.worker) ks g)

  pub descends_leaves : (x : Placement) (n : ℕ) (r : List Move) → descends m x n r ≡ true → Leaves x r
  descends_leaves x n [] e = tt
  descends_leaves x n (k ∷ ks) e = let (f, g) = first_down x n k ks e in (f.leaves, descends_leaves x (suc k.worker) ks g)

  -- how far down its list l has worker w, at most 15
  level : List ℕ → ℕ → ℕ
  level l w = min (rank (m.list w) (place l w)) 15

  -- how far down all are
  levels : List ℕ → ℕ
  levels l = sum_below 64 (level l)

  levels_more : (l k : List ℕ) (w : ℕ) → ((v : ℕ) → level l v ≤ level k v) → w < 64 → level l w < level k w → suc (levels l) ≤ levels k
  unfolding levels
  levels_more l k w h i j = sum_one 64 (level l) (level k) w h i j

  levels_most : (l : List ℕ) → levels l ≤ 960
  unfolding levels level
  levels_most l = sum_most 64 (level l) (λ w. omega arith)

  -- who is below the first worker stays
  unmoved : (x : Placement) (l : List ℕ) (n : ℕ) (r : List Move) (w : ℕ) → descends m x n r ≡ true → w < n → place (moved r l) w ≡ place l w
  unmoved x l n [] w e h = refl
  unmoved x l n (k ∷ ks) w e h =
      let (f, g) = first_down x n k ks e in
      get_or-set_other (moved ks l) k.worker w k.to 255 (λ q. omega (arith, f.from_on)) ∙ unmoved x l (suc k.worker) ks w g (omega (arith, f.from_on))

  -- each move takes a worker down
  descends_room : (l : List ℕ) → length l ≡ 64 → (n : ℕ) (r : List Move) → descends m (place l) n r ≡ true → length r + levels l ≤ levels (moved r l)
  unfolding level
  descends_room l h n [] e = omega arith
  descends_room l h n (k ∷ ks) e =
      let w = k.worker in
      let (f, g) = first_down (place l) n k ks e in
      let more : length ks + levels l ≤ levels (moved ks l) = descends_room l h (suc w) ks g in
      let now : place (moved ks l) w ≡ k.from = unmoved (place l) l (suc w) ks w g (omega arith) ∙ f.leaves in
      let then : place (moved (k ∷ ks) l) w ≡ k.to = get_or-set_same (moved ks l) w k.to 255 (omega (arith, length_moved ks l, f.worker)) in
      let up : level (moved ks l) w < level (moved (k ∷ ks) l) w =
      omega (arith, ap (rank (m.list w)) now, ap (rank (m.list w)) then, f.down, f.few) in
      let same : (v : ℕ) → level (moved ks l) v ≤ level (moved (k ∷ ks) l) v = λ v. elim (cases_eq v w) [
        | inl q ↦ subst (λ (u : ℕ). level (moved ks l) u ≤ level (moved (k ∷ ks) l) u) (sym q) (omega arith)
        | inr q ↦ omega (arith, ap (rank (m.list v)) (get_or-set_other (moved ks l) w v k.to 255 q))
      ] in
      omega (arith, levels_more (moved ks l) (moved (k ∷ ks) l) w same f.worker up)

  -- the first rotation goes down and has two moves, and the others lead on
  pub first_leads : (l : List ℕ) (r : Rotation) (rs : List Rotation) → leads m l (r ∷ rs) ≡ true →
      (descends m (place l) 0 r ≡ true) × (1 < length r) × (leads m (moved r l) rs ≡ true)
  unfolding leads
  first_leads l r rs e =
      let p = and_parts (descends m (place l) 0 r && ltb 1 (length r)) (leads m (moved r l) rs) e in
      let q = and_parts (descends m (place l) 0 r) (ltb 1 (length r)) p.0 in
      (q.0, ltb-true 1 (length r) q.1, p.1)

  pub more_leads : (l : List ℕ) (r : Rotation) (rs : List Rotation) → descends m (place l) 0 r ≡ true → 1 < length r → leads m (moved r l) rs ≡ true → leads m l (r ∷ rs) ≡ true
  unfolding leads
  more_leads l r rs d h e =
      and_from (descends m (place l) 0 r && ltb 1 (length r)) (leads m (moved r l) rs)
      (and_from (descends m (place l) 0 r) (ltb 1 (length r)) d (lt-ltb 1 (length r) h)) e

  pub none_leads : (l : List ℕ) → leads m l [] ≡ true
  unfolding leads
  none_leads l = refl

  -- each has at most 64 moves
  pub leads_slip : (l : List ℕ) (rs : List Rotation) → leads m l rs ≡ true → (i : ℕ) (r : Rotation) → slice_get rs i ≡ Some r → length r ≤ 64
  leads_slip l [] e i r q = absurd (Some≢None (sym q))
  leads_slip l (p ∷ rs) e zero r q =
      let (d, two, f) = first_leads l p rs e in
      let same : length p ≡ length r = ap length (SomeInj q) in
      omega (arith, descends_few (place l) 0 p d (omega arith))
  leads_slip l (p ∷ rs) e (suc i) r q = let (d, two, f) = first_leads l p rs e in leads_slip (moved p l) rs f i r q

  -- one rotation more at the end
  pub leads_push : (l : List ℕ) (rs : List Rotation) (r : Rotation) → leads m l rs ≡ true → descends m (place (led_to l rs)) 0 r ≡ true → 1 < length r →
      leads m l (rs ++ (r ∷ [])) ≡ true
  unfolding led_to
  leads_push l [] r e d h = more_leads l r [] d h (none_leads (moved r l))
  leads_push l (q ∷ rs) r e d h =
      let (a, b, f) = first_leads l q rs e in
      more_leads l q (rs ++ (r ∷ [])) a b (leads_push (moved q l) rs r f d h)

  -- and the last taken away
  pub leads_pop : (l : List ℕ) (rs : List Rotation) (r : Rotation) → leads m l (rs ++ (r ∷ [])) ≡ true →
      (leads m l rs ≡ true) × (descends m (place (led_to l rs)) 0 r ≡ true) × (1 < length r)
  unfolding led_to
  leads_pop l [] r e = let (a, b, f) = first_leads l r [] e in (none_leads l, a, b)
  leads_pop l (q ∷ rs) r e =
      let (a, b, f) = first_leads l q (rs ++ (r ∷ [])) e in
      let (g, d, h) = leads_pop (moved q l) rs r f in
      (more_leads l q rs a b g, d, h)

  rotations_room : (l : List ℕ) → length l ≡ 64 → (rs : List Rotation) → leads m l rs ≡ true →
      (2 * length rs + levels l ≤ levels (led_to l rs)) × (sum_by length rs + levels l ≤ levels (led_to l rs))
  unfolding led_to
  rotations_room l h [] e = (omega arith, omega arith)
  rotations_room l h (r ∷ rs) e =
      let (d, two, f) = first_leads l r rs e in
      let a = descends_room l h 0 r d in
      let (b, c) = rotations_room (moved r l) (length_moved r l ∙ h) rs f in
      (omega arith, omega (arith, sum_by-cons length r rs))

  -- at most 480 rotations
  pub few_rotations : (l : List ℕ) → length l ≡ 64 → (rs : List Rotation) → leads m l rs ≡ true → length rs ≤ 480
  few_rotations l h rs e = omega (arith, (rotations_room l h rs e).0, levels_most (led_to l rs))

  -- and at most 960 moves
  pub few_moves : (l : List ℕ) → length l ≡ 64 → (rs : List Rotation) → leads m l rs ≡ true → sum_by length rs ≤ 960
  few_moves l h rs e = omega (arith, (rotations_room l h rs e).1, levels_most (led_to l rs))

pub led_to_none : (l : List ℕ) → led_to l [] ≡ l
unfolding led_to
led_to_none l = refl

pub led_to_push : (l : List ℕ) (rs : List Rotation) (r : Rotation) → led_to l (rs ++ (r ∷ [])) ≡ moved r (led_to l rs)
unfolding led_to
led_to_push l [] r = refl
led_to_push l (q ∷ rs) r = led_to_push (moved q l) rs r

pub length_led_to : (l : List ℕ) (rs : List Rotation) → length (led_to l rs) ≡ length l
unfolding led_to
length_led_to l [] = refl
length_led_to l (q ∷ rs) = length_led_to (moved q l) rs ∙ length_moved q l
