-- What is made of numbers: a ranking of them one behind the other, and the set of them.
use Rattle.std.specs.Prelude.{ℕ, ◌&&◌, cond, List, [], ◌∷◌, Ok, Err, Result, ◌==◌, nat_lt}
use Rattle.fleet.specs.Sets.{Set, among}
use Rattle.fleet.specs.Rankings.{listed, refusal, pushing, pushed}
use Rattle.fleet.specs.declared.ranking.Ranking.{Ranking}
use Rattle.fleet.specs.declared.ranking.Refusal.{Refusal}

-- the workers of a list: its numbers up to 63
abbrev pub workers_among : List ℕ → Set
workers_among us w = among us w && nat_lt w 64

-- the numbers of a ranking that was made, else the refusal's number
abbrev pub ranking_told : {n : ℕ} → Result (Ranking n) Refusal → Result (List ℕ) ℕ
ranking_told (Ok r) = Ok (listed r)
ranking_told (Err e) = Err (refusal e)

-- the list l of numbers below n with others pushed onto it one after the other, else the answer to the first that is refused
abbrev pub ranking_all : ℕ → List ℕ → List ℕ → Result (List ℕ) ℕ
ranking_all n l [] = Ok l
ranking_all n l (v ∷ vs) = cond (pushing n l v == 0) (ranking_all n (pushed n l v) vs) (Err (pushing n l v))
