-- Settling ends in the stable placement that is best for every worker, after at most one round more than there are pairs.
use Rattle.std.proofs.Common.{◌≡◌, ℕ, zero, suc, ◌+◌, ◌<◌, ◌≤◌, Bool, true, false, cond, List, length, get_or, refl, ap, inl, inr, arith}
use Rattle.std.proofs.lemmas.Bool.{cases_lt}
use Rattle.fleet.specs.Sets.{any_below, sum_below}
use Rattle.fleet.specs.Market.{Market, Sound}
use Rattle.fleet.proofs.Sizes.{false_since, any_from, sum_add, sum_le, sum_back}
use Rattle.policy.specs.Choice.{Policy}
use Rattle.matching.specs.Entries.{place, tabulate}
use Rattle.matching.specs.Stable.{Given, Stable, WorkerBest}
use Rattle.matching.specs.Settling.{stands, rejected, next_round, settle_from, pairs, all_open, settling, settled_placement, settled_rounds}
use Rattle.matching.proofs.Tabulate.{get_d_tabulate, tabulate_past, place_tabulate}
use Rattle.matching.proofs.Rounds.{Progress, spent_stays, past_stays, next_at, next_progress, calm_stable, calm_best}

any_sum : (n : ℕ) (p : ℕ → Bool) → any_below n p ≡ true → 1 ≤ sum_below n (λ w. cond (p w) 1 0)
any_sum zero p e = absurd (grind arith)
any_sum (suc n) p e = let i = any_sum n p in grind arith

module _ {m : Market} {C : Policy} (given : Given m C) where
  abbrev Good : List ℕ → Type 0
  Good closed = Stable m C (stands m closed) × WorkerBest m C (stands m closed)

  calm_good : (closed : List ℕ) → Progress m C closed → ((w : ℕ) → w < m.workers → rejected m C closed w ≡ false) → Good closed
  calm_good closed before f = (calm_stable given closed before calm, calm_best given closed before calm)
    where
      calm : (w : ℕ) → rejected m C closed w ≡ false
      calm w = elim (cases_lt w m.workers) [ inl q ↦ f w q | inr q ↦ past_stays given closed w q ]

  -- a round that rejects someone closes a pair
  pub round_closes : (closed : List ℕ) → ((w : ℕ) → get_or closed w 0 ≤ length (m.list w)) → any_below m.workers (rejected m C closed) ≡ true →
      suc (sum_below m.workers (λ w. get_or closed w 0)) ≤ sum_below m.workers (λ w. get_or (next_round m C closed) w 0)
  round_closes closed short e =
      omega (
        arith,
        any_sum m.workers (rejected m C closed) e,
        sum_add m.workers (λ w. get_or closed w 0) (λ w. cond (rejected m C closed w) 1 0),
        sum_le m.workers (λ w. get_or closed w 0 + cond (rejected m C closed w) 1 0) (λ w. get_or (next_round m C closed) w 0)
            (λ w l. omega (arith, next_at given closed short w)),
      )

  settle_good : (n done : ℕ) (closed : List ℕ) → Progress m C closed → pairs m ≤ n + sum_below m.workers (λ w. get_or closed w 0) →
      Good (settle_from m C n done closed).closed
  settle_good zero done closed before enough =
      calm_good closed before (λ w l. spent_stays m C closed w
      (sum_back m.workers (λ w. get_or closed w 0) (λ w. length (m.list w)) (λ w l. before.short w) (omega arith) w l))
  settle_good (suc n) done closed before enough =
      go (any_below m.workers (rejected m C closed)) refl (settle_good n (suc done) (next_round m C closed) (next_progress given closed before))
    where
      go : (b : Bool) → any_below m.workers (rejected m C closed) ≡ b
          → (pairs m ≤ n + sum_below m.workers (λ w. get_or (next_round m C closed) w 0) → Good (settle_from m C n (suc done) (next_round m C closed)).closed)
          → Good (cond b (settle_from m C n (suc done) (next_round m C closed)) (record { closed = closed; rounds = suc done })).closed
      go true e more = more (omega (arith, round_closes closed before.short e))
      go false e more =
          calm_good closed before (λ w l. false_since (rejected m C closed w) (λ h. let i = any_from (rejected m C closed) m.workers w l h in grind arith))

  pub start : (w : ℕ) → get_or (all_open) w 0 ≡ 0
  start w = elim (cases_lt w 64) [
    | inl q ↦ get_d_tabulate 64 (λ v. 0) w 0 q
    | inr q ↦ tabulate_past 64 (λ v. 0) w 0 q
  ]

  settled_good : Good (settling m C).closed
  settled_good = settle_good (pairs m) 0 (all_open)
      (record { short = λ w. omega (arith, start w); unused = λ y sy w. omega (arith, start w); refuses = λ w p l. absurd (omega (arith, start w)) }) (omega arith)

  pub settled_stable : Stable m C (settled_placement m C)
  settled_stable = settled_good.0

  pub settled_best : WorkerBest m C (settled_placement m C)
  settled_best = settled_good.1

module _ (m : Market) (C : Policy) where
  -- nobody past 63 stands anywhere, so the settled placement is the one of its table
  pub settled_place : Sound m → place (tabulate 64 (settled_placement m C)) ≡ settled_placement m C
  settled_place sound = place_tabulate (settled_placement m C) (λ w l.
      ap (λ (r : List ℕ). get_or r (get_or (settling m C).closed w 0) 255) (sound.past_empty w (omega (arith, sound.few_workers))))

  rounds_le : (n done : ℕ) (closed : List ℕ) → (settle_from m C n done closed).rounds ≤ suc (done + n)
  rounds_le zero done closed = omega arith
  rounds_le (suc n) done closed =
      elim (any_below m.workers (rejected m C closed))
      as (λ b. (cond b (settle_from m C n (suc done) (next_round m C closed)) (record { closed = closed; rounds = suc done })).rounds ≤ suc (done + suc n))
      [ true ↦ omega (arith, rounds_le n (suc done) (next_round m C closed)) | false ↦ omega arith ]

  pub few_rounds : settled_rounds m C ≤ suc (pairs m)
  few_rounds = omega (arith, rounds_le (pairs m) 0 (all_open))
