-- Any two stable placements have a join, and tenants and workers have opposite orders of them.
use Rattle.policy.specs.Choice.{Policy}
use Rattle.fleet.specs.Market.{Market}
use Rattle.matching.specs.Stable.{Given}
use Rattle.matching.specs.Laws.{LatticeLaws}
use Rattle.matching.proofs.Join.{join_stable, join_first_liked, join_second_liked, join_least}
use Rattle.matching.proofs.Polarity.{serves_from_liked, liked_from_serves}

pub lattice_laws : {m : Market} {C : Policy} → Given m C → LatticeLaws m C
lattice_laws given = record {
  polarity = λ x y sx sy. (serves_from_liked given sx sy, liked_from_serves given sx sy);
  joined = λ x y sx sy. record {
    stable = join_stable given sx sy;
    first = join_first_liked given sx sy;
    second = join_second_liked given sx sy;
    least = λ z sz first second. join_least given sx sy sz first second;
  };
}
