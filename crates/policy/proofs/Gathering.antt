-- The set of the workers that a chain gives, gathered one by one.
use Rattle.std.proofs.Common.{◌≡◌, ℕ, zero, suc, Bool, true, false, cond, Option, List, [], ◌∷◌, ◌++◌, take, filter, refl, ap, ◌∙◌, arith}
use mathlib.Core.Path.{fun_ext}
use denote.Param.Members.{Mut}
use Rattle.std.specs.Fn.{Called}
use Rattle.std.specs.Iterator.{FoldsItems}
use Rattle.std.proofs.lemmas.Bool.{false≢true}
use Rattle.std.proofs.lemmas.Bool.Decides.{nat_tests}
use Rattle.std.proofs.lemmas.Fn.{fold_over}
use Rattle.std.proofs.lemmas.Iterator.{YieldsList}
use Rattle.fleet.specs.Sets.{Set, Workers, among, nobody, with_worker}
use Rattle.fleet.specs.Members.{members}
use Rattle.fleet.specs.declared.worker_set.WorkerSet.{WorkerSet}
use Rattle.fleet.proofs.Different.{among_push}

-- those who are taken out of a set are of that set
pub taken_of : (Z : Set) (n : ℕ) (l : List ℕ) (w : ℕ) → among (take n (filter Z l)) w ≡ true → Z w ≡ true
taken_of Z zero l w h = absurd (false≢true h)
taken_of Z (suc n) [] w h = absurd (false≢true h)
taken_of Z (suc n) (x ∷ xs) w h = go (taken_of Z (suc n) xs w) (taken_of Z n xs w) (Z x) refl h
  where
    go : (among (take (suc n) (filter Z xs)) w ≡ true → Z w ≡ true) → (among (take n (filter Z xs)) w ≡ true → Z w ≡ true) →
        (b : Bool) → Z x ≡ b → among (take (suc n) (cond b (x ∷ filter Z xs) (filter Z xs))) w ≡ true → Z w ≡ true
    go rest fewer true e k = grind (arith, nat_tests)
    go rest fewer false e k = rest k

-- the members of A are those on the list, if these are workers' numbers
abbrev pub Gathered : List ℕ → Set → Type 0
Gathered l A = Workers (among l) → A ≡ among l

gathered_more : (l : List ℕ) (A B : Set) (w : ℕ) → Gathered l A → B ≡ with_worker A w → Gathered (l ++ (w ∷ [])) B
gathered_more l A B w g e small =
    e ∙ ap (λ (C : Set). with_worker C w) (g (λ v h. small v (let p = among_push l w v in grind arith)))
    ∙ fun_ext (λ v. let p = among_push l w v in let s = small w in let q = among_push l w w in grind (arith, nat_tests))

-- a fold that adds each worker gathers them
pub gathered : {S A F : Type 0} {steps : S → Option A → S → Type 0} {v : A → ℕ} {g : Mut F (WorkerSet × (A × Unit {0})) WorkerSet} {s : S} {all : List ℕ} (f : F) (none sum : WorkerSet) →
    FoldsItems steps g s f none sum → YieldsList steps v s all → members none ≡ nobody →
    ((a : WorkerSet) (x : A) (b : WorkerSet) (q : F) → Called g f (a, (x, tt)) b q → (members b ≡ with_worker (members a) (v x)) × (q ≡ f)) → Gathered all (members sum)
gathered {steps = steps} {v = v} {g = g} {s = s} {all = all} f none sum ran chain empty adds =
    fold_over steps v g (λ (l : List ℕ) (a : WorkerSet). Gathered l (members a)) f
    (λ l a x b q i k. let more = adds a x b q k in (gathered_more l (members a) (members b) (v x) i more.0, more.1))
    s all none sum chain.runs (λ small. empty) ran
