-- A ranking as a list, and what a push answers and leaves.
use Rattle.std.specs.Prelude.{ℕ, cond, List, [], ◌∷◌, ◌++◌, take, replicate, Ok, Err, Result, ◌==◌, nat_lt, slice_index_or, refl}
use Rattle.std.proofs.Common.{zero-le}
use Rattle.std.proofs.lemmas.List.{length-replicate}
use Rattle.std.proofs.lemmas.Bool.{false≢true}
use Rattle.fleet.specs.Sets.{among}
use Rattle.fleet.specs.declared.ranking.Ranking.{Ranking}
use Rattle.fleet.specs.declared.ranking.Refusal.{Refusal}
use Rattle.fleet.specs.declared.ranking.Refusal.TheVariants.{OutOfRange, Repeated}

-- the numbers of a ranking, best first
abbrev pub listed : {n : ℕ} → Ranking n → List ℕ
listed r = take r.len r.items

-- the ranking of nothing
abbrev pub no_ranking : (n : ℕ) → Ranking n
no_ranking n = record { len = 0; items = replicate n 0; room = length-replicate n 0; short = zero-le; within = λ t h. absurd (false≢true h); apart = refl }

-- worker w's ranking, of those in rows, and the ranking of nothing past them
abbrev pub row : List (Ranking 16) → ℕ → Ranking 16
row rows w = slice_index_or rows w (no_ranking 16)

-- the refusals by number
abbrev pub refusal : Refusal → ℕ
refusal OutOfRange = 1
refusal Repeated = 2

-- 0 for a number that was put on, else the refusal's number
abbrev pub push_answer : Result (Unit {0}) Refusal → ℕ
push_answer (Ok _) = 0
push_answer (Err e) = refusal e

-- the answer to a push of v onto the list l of numbers below n
abbrev pub pushing : ℕ → List ℕ → ℕ → ℕ
pushing n l v = cond (nat_lt v n) (cond (among l v) 2 0) 1

-- the list after that push: one longer where it is answered 0, else the same
abbrev pub pushed : ℕ → List ℕ → ℕ → List ℕ
pushed n l v = cond (pushing n l v == 0) (l ++ (v ∷ [])) l
