-- Different numbers in range are all ranked.
use Rattle.std.proofs.Common.{◌≡◌, ℕ, List, Ok, Err, Result, ◌∙◌}
use Rattle.std.specs.Result.{result_unwrap_or}
use Rattle.std.proofs.lemmas.Bool.{and_parts}
use Rattle.fleet.specs.Sets.{all_under}
use Rattle.fleet.specs.Market.{different}
use Rattle.fleet.specs.Rankings.{listed, refusal}
use Rattle.fleet.specs.OfNumbers.{ranking_told}
use Rattle.fleet.specs.declared.ranking.Ranking.{Ranking}
use Rattle.fleet.specs.declared.ranking.Refusal.{Refusal}
use Rattle.fleet.proofs.OfNumbers.{all_ranked}
use Rattle.sheet.proofs.reading.ranking.Goals as goal

ok_inj : (a b : List ℕ) → ◌≡◌ {A = Result (List ℕ) ℕ} (Ok a) (Ok b) → a ≡ b
ok_inj a b e = cc

made : {n : ℕ} (r : Result (Ranking n) Refusal) (d : Ranking n) (l : List ℕ) → ranking_told r ≡ Ok l → listed (result_unwrap_or r d) ≡ l
made (Ok r) d l e = ok_inj (listed r) l e
made (Err f) d l e = absurd (err_ok e)
  where
    err_ok : ◌≡◌ {A = Result (List ℕ) ℕ} (Err (refusal f)) (Ok l) → ⊥
    err_ok h = cc

pub returns : goal.returns
returns g c = λ fine.
    let numbers = c.args.numbers.now in
    let parts = and_parts (all_under g.row.N numbers) (different numbers) fine in
    rw c.unwrap_or.ensures (made c.try_from.result c.empty.result numbers (c.try_from.ensures ∙ all_ranked g.row.N numbers parts.0 parts.1))
