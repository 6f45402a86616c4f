-- Equal sets, sizes of sets and of unions, sums over the numbers below n, and the pigeonhole principle.
use Rattle.std.proofs.Common.{◌≡◌, ℕ, zero, suc, ◌+◌, ◌<◌, ◌≤◌, Bool, true, false, cond, eqb, ltb, ◌⊎◌, sym, refl, ap, ◌∙◌, inl, inr, arith}
use mathlib.Core.Path.{fun_ext}
use Rattle.std.proofs.lemmas.Bool.{cases_eq, cases_order, or_left, or_right, or_cases}
use Rattle.std.proofs.lemmas.Bool.Decides.{nat_tests}
use Rattle.fleet.specs.Sets.{Set, Within, Workers, union, insert, minus, singleton, any_below, sum_below, count_below, size}
use Rattle.fleet.specs.Market.{Placement, staff}

-- tests and sets

bool_ext : (a b : Bool) → (a ≡ true → b ≡ true) → (b ≡ true → a ≡ true) → a ≡ b
bool_ext true b f g = sym (f refl)
bool_ext false true f g = g refl
bool_ext false false f g = refl

pub set_ext : (A B : Set) → Within A B → Within B A → A ≡ B
set_ext A B f g = fun_ext (λ w. bool_ext (A w) (B w) (f w) (g w))

-- equal sets agree at each worker
pub same_at : {A B : Set} → A ≡ B → (w : ℕ) → A w ≡ B w
same_at e w = ap (λ (F : Set). F w) e

pub false_since : (a : Bool) → (a ≡ true → ⊥) → a ≡ false
false_since true f = absurd (f refl)
false_since false f = refl

-- either some number below n has P, or all have Q
pub search_below : (P Q : ℕ → Type 0) → ((k : ℕ) → P k ⊎ Q k) → (n : ℕ) → ((k : ℕ) × (k < n) × P k) ⊎ ((k : ℕ) → k < n → Q k)
search_below P Q d zero = inr (λ k l. absurd (omega arith))
search_below P Q d (suc n) = go (search_below P Q d n) (d n)
  where
    go : (((k : ℕ) × (k < n) × P k) ⊎ ((k : ℕ) → k < n → Q k)) → P n ⊎ Q n → ((k : ℕ) × (k < suc n) × P k) ⊎ ((k : ℕ) → k < suc n → Q k)
    go (inl (k, l, p)) e = inl (k, omega arith, p)
    go (inr f) (inl p) = inl (n, omega arith, p)
    go (inr f) (inr q) = inr (λ k l. at k l (cases_eq k n))
      where
        at : (k : ℕ) → k < suc n → (k ≡ n) ⊎ (k ≡ n → ⊥) → Q k
        at k l (inl e) = rw e q
        at k l (inr e) = f k (omega arith)

pub any_some : (p : ℕ → Bool) (n : ℕ) → any_below n p ≡ true → (k : ℕ) × (k < n) × (p k ≡ true)
any_some p zero e = absurd (grind arith)
any_some p (suc n) e = go (or_cases (any_below n p) (p n) e) (any_some p n)
  where
    go : (any_below n p ≡ true) ⊎ (p n ≡ true) → (any_below n p ≡ true → (k : ℕ) × (k < n) × (p k ≡ true)) → (k : ℕ) × (k < suc n) × (p k ≡ true)
    go (inl h) rec = let r = rec h in let l = r.1 in (r.0, omega arith, r.2)
    go (inr h) rec = (n, omega arith, h)

pub any_from : (p : ℕ → Bool) (n k : ℕ) → k < n → p k ≡ true → any_below n p ≡ true
any_from p zero k l h = absurd (omega arith)
any_from p (suc n) k l h = go (cases_eq k n) (any_from p n k)
  where
    go : (k ≡ n) ⊎ (k ≡ n → ⊥) → (k < n → p k ≡ true → any_below n p ≡ true) → any_below (suc n) p ≡ true
    go (inl e) rec = or_right (any_below n p) (p n) (rw e at h)
    go (inr e) rec = or_left (any_below n p) (p n) (rec (omega arith) h)

-- sizes

count_within : (n : ℕ) (A B : Set) → Within A B → count_below n A ≤ count_below n B
count_within zero A B h = omega arith
count_within (suc n) A B h = let i = count_within n A B h in let k = h n in grind arith

count_union : (n : ℕ) (A B : Set) → ((w : ℕ) → A w ≡ true → B w ≡ true → ⊥) → count_below n (union A B) ≡ count_below n A + count_below n B
count_union zero A B h = omega arith
count_union (suc n) A B h = let i = count_union n A B h in let k = h n in grind arith

count_minus : (n : ℕ) (A B : Set) → Within B A → count_below n (minus A B) + count_below n B ≡ count_below n A
count_minus zero A B h = omega arith
count_minus (suc n) A B h = let i = count_minus n A B h in let k = h n in grind arith

count_back : (n : ℕ) (A B : Set) → Within A B → count_below n B ≤ count_below n A → (w : ℕ) → w < n → B w ≡ true → A w ≡ true
count_back zero A B h s w l b = absurd (omega arith)
count_back (suc n) A B h s w l b = go (λ s' l'. count_back n A B h s' w l' b) (cases_eq w n)
  where
    go : (count_below n B ≤ count_below n A → w < n → A w ≡ true) → (w ≡ n) ⊎ (w ≡ n → ⊥) → A w ≡ true
    go rec (inl e) =
        let i = count_within n A B h in
        let b' : B n ≡ true = rw e at b in
        let r : A n ≡ true = grind arith in
        rw e r
    go rec (inr e) =
        let i = count_within n A B h in
        let k = h n in
        let s' : count_below n B ≤ count_below n A = grind arith in
        rec s' (omega arith)

count_singleton : (n v : ℕ) → count_below n (singleton v) ≡ cond (ltb v n) 1 0
count_singleton zero v = grind (arith, nat_tests)
count_singleton (suc n) v = let i = count_singleton n v in grind (arith, nat_tests)

-- f maps the members of A below n one to one to members of B below k
count_into : (n k : ℕ) (A B : Set) (f : ℕ → ℕ) → ((a : ℕ) → a < n → A a ≡ true → (B (f a) ≡ true) × (f a < k)) →
    ((a b : ℕ) → a < n → b < n → A a ≡ true → A b ≡ true → f a ≡ f b → a ≡ b) → count_below n A ≤ count_below k B
count_into zero k A B f into one = omega arith
count_into (suc n) k A B f into one = go (A n) refl (count_into n k A (minus B (singleton (f n))) f) (count_into n k A B f)
  where
    go : (b : Bool) → A n ≡ b → (((a : ℕ) → a < n → A a ≡ true → (minus B (singleton (f n)) (f a) ≡ true) × (f a < k)) →
        ((a b : ℕ) → a < n → b < n → A a ≡ true → A b ≡ true → f a ≡ f b → a ≡ b) → count_below n A ≤ count_below k (minus B (singleton (f n)))) →
        (((a : ℕ) → a < n → A a ≡ true → (B (f a) ≡ true) × (f a < k)) →
        ((a b : ℕ) → a < n → b < n → A a ≡ true → A b ≡ true → f a ≡ f b → a ≡ b) → count_below n A ≤ count_below k B) → count_below (suc n) A ≤ count_below k B
    go true e rec rec' =
        let here = into n (omega arith) e in
        let r = rec (λ a l i. let p = into a (omega arith) i in let q = one a n (omega arith) (omega arith) i e in grind (arith, nat_tests))
        (λ a b l l' i i' e'. one a b (omega arith) (omega arith) i i' e') in
        let s = count_minus k B (singleton (f n)) (λ w i. grind (arith, nat_tests)) in
        let o = count_singleton k (f n) in
        grind (arith, nat_tests)
    go false e rec rec' =
        let r = rec' (λ a l i. into a (omega arith) i) (λ a b l l' i i' e'. one a b (omega arith) (omega arith) i i' e') in
        grind arith

pub size_within : (A B : Set) → Within A B → size A ≤ size B
unfolding size
size_within A B h = count_within 64 A B h

pub size_union : (A B : Set) → ((w : ℕ) → A w ≡ true → B w ≡ true → ⊥) → size (union A B) ≡ size A + size B
unfolding size
size_union A B h = count_union 64 A B h

pub size_minus : (A B : Set) → Within B A → size (minus A B) + size B ≡ size A
unfolding size
size_minus A B h = count_minus 64 A B h

-- a set within another that is no larger is the other
pub size_same : (A B : Set) → Workers B → Within A B → size B ≤ size A → A ≡ B
unfolding size
size_same A B small h s = set_ext A B h (λ w b. count_back 64 A B h s w (small w b) b)

size_singleton : (v : ℕ) → v < 64 → size (singleton v) ≡ 1
unfolding size
size_singleton v l = count_singleton 64 v ∙ grind (arith, nat_tests)

pub size_insert : (A : Set) (v : ℕ) → v < 64 → A v ≡ false → size (insert A v) ≡ suc (size A)
size_insert A v l o =
    let a = size_union A (singleton v) (λ w i j. grind (arith, nat_tests)) in
    let b = size_singleton v l in
    omega arith

pub size_remove : (A : Set) (v : ℕ) → v < 64 → A v ≡ true → suc (size (minus A (singleton v))) ≡ size A
size_remove A v l i =
    let a = size_minus A (singleton v) (λ w j. grind (arith, nat_tests)) in
    let b = size_singleton v l in
    omega arith

-- one to one into B
pub size_into : (A B : Set) (f : ℕ → ℕ) → Workers B → ((a : ℕ) → A a ≡ true → B (f a) ≡ true) →
    ((a b : ℕ) → A a ≡ true → A b ≡ true → f a ≡ f b → a ≡ b) → size A ≤ size B
unfolding size
size_into A B f small into one = count_into 64 64 A B f (λ a l i. (into a i, small (f a) (into a i))) (λ a b l l' i i' e. one a b i i' e)

count_all : (n : ℕ) → count_below n (λ k. true) ≡ n
count_all zero = refl
count_all (suc n) = let i = count_all n in omega arith

-- n + 1 numbers, all below n: two of them are the same
pub pigeonhole : (n : ℕ) (f : ℕ → ℕ) → ((k : ℕ) → k ≤ n → f k < n) → (i : ℕ) × (j : ℕ) × (i < j) × (j ≤ n) × (f i ≡ f j)
pigeonhole n f small =
    go (search_below (λ j. (i : ℕ) × (i < j) × (f i ≡ f j)) (λ j. (i : ℕ) → i < j → f i ≡ f j → ⊥)
    (λ j. search_below (λ i. f i ≡ f j) (λ i. f i ≡ f j → ⊥) (λ i. cases_eq (f i) (f j)) j) (suc n))
  where
    go : ((j : ℕ) × (j < suc n) × ((i : ℕ) × (i < j) × (f i ≡ f j))) ⊎ ((j : ℕ) → j < suc n → (i : ℕ) → i < j → f i ≡ f j → ⊥) →
        (i : ℕ) × (j : ℕ) × (i < j) × (j ≤ n) × (f i ≡ f j)
    go (inl r) = let l = r.1 in (r.2.0, r.0, r.2.1, omega arith, r.2.2)
    go (inr h) =
        let all : Set = λ k. true in
        let k = count_into (suc n) n all all f (λ a l i. (refl, small a (omega arith))) (λ a b l l' i i' e. at a b l l' e (cases_order a b)) in
        let p = count_all n in
        let q = count_all (suc n) in
        absurd (omega arith)
      where
        at : (a b : ℕ) → a < suc n → b < suc n → f a ≡ f b → (a ≡ b) ⊎ ((a < b) ⊎ (b < a)) → a ≡ b
        at a b l l' e (inl k) = k
        at a b l l' e (inr (inl k)) = absurd (h b l' a k e)
        at a b l l' e (inr (inr k)) = absurd (h a l b k (sym e))

-- sums

pub sum_add : (k : ℕ) (f g : ℕ → ℕ) → sum_below k (λ t. f t + g t) ≡ sum_below k f + sum_below k g
sum_add zero f g = refl
sum_add (suc k) f g = omega (arith, sum_add k f g)

pub sum_le : (k : ℕ) (f g : ℕ → ℕ) → ((t : ℕ) → t < k → f t ≤ g t) → sum_below k f ≤ sum_below k g
sum_le zero f g h = omega arith
sum_le (suc k) f g h = omega (arith, sum_le k f g (λ t l. h t (omega arith)), h k (omega arith))

-- where no term is larger and the sum is no smaller, no term is smaller
pub sum_back : (k : ℕ) (f g : ℕ → ℕ) → ((t : ℕ) → t < k → f t ≤ g t) → sum_below k g ≤ sum_below k f → (t : ℕ) → t < k → g t ≤ f t
sum_back zero f g h le t l = absurd (omega arith)
sum_back (suc k) f g h le t l = go (cases_eq t k) (λ s q. sum_back k f g (λ s ls. h s (omega arith)) s t q)
  where
    i : sum_below k f ≤ sum_below k g
    i = sum_le k f g (λ s ls. h s (omega arith))

    go : (t ≡ k) ⊎ (t ≡ k → ⊥) → (sum_below k g ≤ sum_below k f → t < k → g t ≤ f t) → g t ≤ f t
    go (inl e) rec = rw e (omega (arith, i))
    go (inr n) rec = rec (omega (arith, h k (omega arith))) (omega arith)

sum_zero : (k : ℕ) → sum_below k (λ t. 0) ≡ 0
sum_zero zero = refl
sum_zero (suc k) = omega (arith, sum_zero k)

pub sum_indicator : (k a : ℕ) → sum_below k (λ t. cond (eqb a t) 1 0) ≡ cond (ltb a k) 1 0
sum_indicator zero a = grind (arith, nat_tests)
sum_indicator (suc k) a = let i = sum_indicator k a in grind (arith, nat_tests)

count_staffs : (k n : ℕ) (x : Placement) → sum_below k (λ t. count_below n (staff x t)) ≡ count_below n (λ w. ltb (x w) k)
count_staffs k zero x = sum_zero k
count_staffs k (suc n) x =
    omega (arith, count_staffs k n x, sum_indicator k (x n), sum_add k (λ t. count_below n (staff x t)) (λ t. cond (eqb (x n) t) 1 0))

-- the staffs of the tenants below k have as many workers as are placed below k
pub size_staffs : (k : ℕ) (x : Placement) → sum_below k (λ t. size (staff x t)) ≡ size (λ w. ltb (x w) k)
unfolding size
size_staffs k x = count_staffs k 64 x
