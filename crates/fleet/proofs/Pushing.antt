-- A ranking has room for a number that it lacks, and is one of different numbers after it too.
use Rattle.std.proofs.Common.{◌≡◌, ℕ, ◌+◌, ◌<◌, true, false, ◌||◌, eqb, List, [], ◌∷◌, ◌++◌, length, take, set, sym, ap, ◌∙◌, arith}
use Rattle.std.proofs.lemmas.List.{length-take-le, take_more_set}
use Rattle.std.proofs.lemmas.Bool.Decides.{nat_tests}
use Rattle.fleet.specs.Sets.{among}
use Rattle.fleet.specs.Market.{different}
use Rattle.fleet.specs.declared.ranking.Ranking.{Ranking}
use Rattle.fleet.specs.Rankings.{listed}
use Rattle.fleet.proofs.Different.{room_left, among_push, different_push}

pub listed_length : {n : ℕ} (r : Ranking n) → length (listed r) ≡ r.len
listed_length r = length-take-le r.len r.items (omega arith)

module _ {n : ℕ} (r : Ranking n) (v : ℕ) (small : v < n) (new : among (listed r) v ≡ false) where
  pub room : r.len < n
  room = omega (arith, room_left n (listed r) v r.apart r.within small new, listed_length r)

  pub longer : take (r.len + 1) (set r.items r.len v) ≡ listed r ++ (v ∷ [])
  longer = take_more_set r.items r.len v (omega (arith, room))

  pub longer_within : (t : ℕ) → among (take (r.len + 1) (set r.items r.len v)) t ≡ true → t < n
  longer_within t h =
      let e : (among (listed r) t || eqb v t) ≡ true = sym (ap (λ (l : List ℕ). among l t) longer ∙ among_push (listed r) v t) ∙ h in
      let k = r.within t in
      grind (arith, nat_tests)

  pub longer_apart : different (take (r.len + 1) (set r.items r.len v)) ≡ true
  longer_apart = ap different longer ∙ different_push (listed r) v r.apart new
