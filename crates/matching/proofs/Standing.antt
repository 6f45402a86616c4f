-- Where the workers stand; who is turned away, one tenant more; and one pair more closed.
use Rattle.std.proofs.Common.{◌≡◌, ℕ, ◌+◌, ◌-◌, ◌<◌, true, cond, eqb, List, ◌++◌, length, drop, get_or, set, replicate, sym, refl, ap, ◌∙◌, inl, inr, arith}
use mathlib.Core.Path.{fun_ext}
use Rattle.std.proofs.lemmas.List.{get_or-set_same, get_or-set_other, get_or-replicate, length-replicate, get_or_past, get_or_append_left, get_or-append_right, get_or-drop, ext_get_or}
use Rattle.std.proofs.lemmas.Bool.{cases_eq, cases_lt, eq-eqb, ne_eqb, false≢true}
use Rattle.std.proofs.lemmas.Bool.Decides.{nat_tests}
use Rattle.fleet.specs.Sets.{Set, Workers, nobody, singleton, union, minus}
use Rattle.fleet.specs.Market.{Market, Sound, Placement, staff}
use Rattle.fleet.specs.Members.{members}
use Rattle.fleet.specs.declared.worker_set.WorkerSet.{WorkerSet}
use Rattle.fleet.proofs.Sizes.{set_ext, same_at}
use Rattle.policy.specs.Choice.{Policy, AllLawful}
use Rattle.policy.specs.Choose.{idempotent}
use Rattle.matching.specs.Entries.{place, tabulate}
use Rattle.matching.specs.Staffs.{no_workers}
use Rattle.matching.specs.Settling.{stands, away, Content}
use Rattle.matching.proofs.Tabulate.{length_tabulate, get_d_tabulate}

-- one entry written
pub get_d_set : (l : List ℕ) (i a d v : ℕ) → i < length l → get_or (set l i a) v d ≡ cond (eqb v i) a (get_or l v d)
get_d_set l i a d v h = elim (cases_eq v i) [
  | inl e ↦ rw (e, get_or-set_same l i a d h, eq-eqb i i refl)
  | inr n ↦ rw (get_or-set_other l i v a d n, ne_eqb v i n)
]

-- a tenant of nobody, wherever it is asked for
none_left : (k n v : ℕ) → place (drop k (replicate n 255)) v ≡ 255
none_left k n v = elim (cases_lt (k + v) n) [
  | inl q ↦ get_or-drop k (replicate n 255) v 255 ∙ get_or-replicate n (k + v) 255 255 q
  | inr q ↦ get_or-drop k (replicate n 255) v 255 ∙ get_or_past (replicate n 255) (k + v) 255 (omega (arith, length-replicate {A = ℕ} n 255))
]

-- all workers stand, and past them nobody does
pub stands_all : {m : Market} → Sound m → (closed own : List ℕ) (k n : ℕ) → k ≡ m.workers → length own ≡ m.workers →
    ((v : ℕ) → v < m.workers → place own v ≡ stands m closed v) → place (own ++ drop k (replicate n 255)) ≡ stands m closed
stands_all {m} sound closed own k n e long f = fun_ext at
  where
    at : (v : ℕ) → place (own ++ drop k (replicate n 255)) v ≡ stands m closed v
    at v = elim (cases_lt v m.workers) [
      | inl q ↦ get_or_append_left own (drop k (replicate n 255)) 255 v (omega arith) ∙ f v q
      | inr q ↦ get_or-append_right own (drop k (replicate n 255)) m.workers v 255 long q ∙ none_left k n (v - m.workers) ∙
          sym (ap (λ (r : List ℕ). get_or r (get_or closed v 0) 255) (sound.past_empty v q))
    ]

module _ (C : Policy) (x : Placement) (t : ℕ) where
  pub away_more : (w : ℕ) → union (away C x t) (minus (staff x t) (C t (staff x t))) w ≡ away C x (t + 1) w
  away_more w = elim (cases_eq (x w) t) [
    | inl e ↦ rw e (grind (arith, nat_tests))
    | inr n ↦ grind (arith, nat_tests)
  ]

  -- a tenant that would choose all its workers turns nobody away
  pub away_kept : C t (staff x t) ≡ staff x t → (w : ℕ) → away C x t w ≡ away C x (t + 1) w
  away_kept e w = let k = same_at e w in elim (cases_eq (x w) t) [
    | inl q ↦ rw q (grind (arith, nat_tests))
    | inr n ↦ grind (arith, nat_tests)
  ]

-- whom a tenant keeps of its workers
module _ {C : Policy} (laws : AllLawful C) where
  -- it would choose them again
  pub content_set : (sets : List WorkerSet) (t : ℕ) → t < length sets → Content C sets → (s : WorkerSet) (A : Set) → Workers A →
      members s ≡ minus A (minus A (C t A)) → Content C (set sets t s)
  content_set sets t l before s A small e u k = elim (cases_eq u t) [
    | inl q ↦ rw (q, get_or-set_same sets t s no_workers l) (rw (e ∙ again) (idempotent (laws t) A small))
    | inr n ↦ rw (get_or-set_other sets t u s no_workers n) (before u k)
  ]
    where
      again : minus A (minus A (C t A)) ≡ C t A
      again = fun_ext (λ w. let i = (laws t).inside A small w in grind arith)

  -- at first each keeps nobody
  pub content_none : (s : WorkerSet) → members s ≡ nobody → Content C (replicate 16 s)
  content_none s e t l = rw (get_or-replicate 16 t s no_workers l, e) (set_ext (C t nobody) nobody ((laws t).inside nobody (λ w h. absurd (false≢true h))) (λ w h. absurd (false≢true h)))

-- one pair more is closed
module _ (m : Market) (closed l : List ℕ) (w k t : ℕ) (h : w < length closed) (i : w < length l) where
  pub closed_one : place l ≡ stands m closed → t ≡ stands m (set closed w k) w → place (set l w t) ≡ stands m (set closed w k)
  closed_one e f = fun_ext (λ v. elim (cases_eq v w) [
    | inl q ↦ rw (q, get_or-set_same l w t 255 i) f
    | inr n ↦ rw (get_or-set_other l w v t 255 n) (ap (λ (x : Placement). x v) e ∙ ap (λ (j : ℕ). get_or (m.list v) j 255) (sym (get_or-set_other closed w v k 0 n)))
  ])

module _ (old closed : List ℕ) (all : Set) where
  pub closed_more : (rest next : Set) (w : ℕ) → w < length closed → ((v : ℕ) → get_or closed v 0 ≡ get_or old v 0 + cond (minus all rest v) 1 0) →
      rest w ≡ true → all w ≡ true → next ≡ minus rest (singleton w) →
      (v : ℕ) → get_or (set closed w (get_or closed w 0 + 1)) v 0 ≡ get_or old v 0 + cond (minus all next v) 1 0
  closed_more rest next w h f r a e v =
      let s = get_d_set closed w (get_or closed w 0 + 1) 0 v h in
      let g = f v in
      let n = same_at e v in
      elim (cases_eq v w) [ inl q ↦ (let g' = f w in grind (arith, nat_tests)) | inr q ↦ grind (arith, nat_tests) ]

  -- of those that are still to come no pair is closed yet
  pub still_open : (rest : Set) (w : ℕ) → ((v : ℕ) → get_or closed v 0 ≡ get_or old v 0 + cond (minus all rest v) 1 0) → rest w ≡ true → get_or closed w 0 ≡ get_or old w 0
  still_open rest w f r = let g = f w in grind arith

  pub closed_all : length closed ≡ 64 → (rest : Set) → rest ≡ nobody → ((v : ℕ) → get_or closed v 0 ≡ get_or old v 0 + cond (minus all rest v) 1 0) →
      closed ≡ tabulate 64 (λ w. get_or old w 0 + cond (all w) 1 0)
  closed_all n rest e f = ext_get_or 0 closed (tabulate 64 g) (n ∙ sym (length_tabulate 64 g)) (λ v l.
      let k = f v in let j = same_at e v in let t = get_d_tabulate 64 g v 0 (omega arith) in grind arith)
    where
      g : ℕ → ℕ
      g w = get_or old w 0 + cond (all w) 1 0
