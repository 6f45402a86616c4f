-- Numbers that are pushed one after the other: a step, a refusal, and that different numbers in range are all ranked; and the workers among them.
use Rattle.std.specs.Prelude.{◌≡◌, ℕ, ◌+◌, ◌<◌, ◌≤◌, true, false, cond, not, List, [], ◌∷◌, ◌++◌, length, drop, Ok, Err, ◌==◌, nat_lt, slice_index, refl}
use Rattle.std.proofs.Common.{arith, sym, ap, ◌∙◌, append-nil, append_assoc}
use Rattle.std.proofs.Math.Path.{fun_ext}
use Rattle.std.proofs.lemmas.Bool.{and_parts, or_left, or_right, not-true, eq-eqb}
use Rattle.std.proofs.lemmas.Bool.Decides.{nat_tests}
use Rattle.std.proofs.lemmas.List.{at_drop_more, at_drop_all}
use Rattle.fleet.specs.Sets.{Set, among, all_under, union, with_worker}
use Rattle.fleet.specs.Market.{different}
use Rattle.fleet.proofs.Different.{among_push}
use Rattle.fleet.specs.Rankings.{refusal, pushing, pushed}
use Rattle.fleet.specs.OfNumbers.{workers_among, ranking_all}
use Rattle.fleet.specs.declared.ranking.Refusal.{Refusal}
use Rattle.fleet.specs.declared.ranking.Refusal.TheVariants.{OutOfRange, Repeated}

module _ (n : ℕ) (l : List ℕ) (vs : List ℕ) (i : ℕ) (here : i < length vs) where
  step : ranking_all n l (drop i vs) ≡ cond (pushing n l (slice_index vs i) == 0) (ranking_all n (pushed n l (slice_index vs i)) (drop (i + 1) vs)) (Err (pushing n l (slice_index vs i)))
  step = at_drop_more (ranking_all n l) vs i 0 here

  pub refused : (e : Refusal) → refusal e ≡ pushing n l (slice_index vs i) → Err (refusal e) ≡ ranking_all n l (drop i vs)
  refused OutOfRange h = rw (step, ← h) refl
  refused Repeated h = rw (step, ← h) refl

  pub pushed_on : 0 ≡ pushing n l (slice_index vs i) → ranking_all n l (drop i vs) ≡ ranking_all n (pushed n l (slice_index vs i)) (drop (i + 1) vs)
  pushed_on h = rw (step, ← h) refl

pub all_pushed : (n : ℕ) (l vs : List ℕ) (i : ℕ) → length vs ≤ i → ranking_all n l (drop i vs) ≡ Ok l
all_pushed n l vs i h = at_drop_all (ranking_all n l) vs i h

module _ (n : ℕ) where
  ranked_behind : (l vs : List ℕ) → all_under n vs ≡ true → different vs ≡ true → ((t : ℕ) → among vs t ≡ true → among l t ≡ false) → ranking_all n l vs ≡ Ok (l ++ vs)
  ranked_behind l [] u d a = ap Ok (sym (append-nil l))
  ranked_behind l (v ∷ vs) u d a =
      let p = and_parts (nat_lt v n) (all_under n vs) u in
      let q = and_parts (not (among vs v)) (different vs) d in
      let small = p.0 in
      let new : among l v ≡ false = a v (or_left (v == v) (among vs v) (eq-eqb v v refl)) in
      let later = ranked_behind (l ++ (v ∷ [])) vs p.1 q.1 (λ t h.
      let e = among_push l v t in
      let b = a t (or_right (v == t) (among vs t) h) in
      let k = not-true (among vs v) q.0 in
      grind (arith, nat_tests)) in
      rw (small, new) (later ∙ ap Ok (append_assoc l (v ∷ []) vs))

  -- different numbers below the bound are all ranked
  pub all_ranked : (vs : List ℕ) → all_under n vs ≡ true → different vs ≡ true → ranking_all n [] vs ≡ Ok vs
  all_ranked vs u d = ranked_behind [] vs u d (λ t h. refl)

-- the workers among numbers below 64 are the numbers
pub all_workers : (us : List ℕ) → ((w : ℕ) → among us w ≡ true → w < 64) → workers_among us ≡ among us
all_workers us small = fun_ext (λ w. let h = small w in grind (arith, nat_tests))

module _ (A : Set) (us : List ℕ) (i : ℕ) where
  -- the next number joins the members
  pub one_joins : i < length us → union (with_worker A (slice_index us i)) (workers_among (drop (i + 1) us)) ≡ union A (workers_among (drop i us))
  one_joins h = fun_ext (λ w. let e = at_drop_more (λ vs. workers_among vs w) us i 0 h in grind (arith, nat_tests))

-- nobody is left at the end
pub none_left : (A B : Set) (us : List ℕ) (i : ℕ) → length us ≤ i → union A (workers_among (drop i us)) ≡ B → A ≡ B
none_left A B us i h all = fun_ext (λ w. let e = at_drop_all (λ vs. workers_among vs w) us i h in grind arith) ∙ all
