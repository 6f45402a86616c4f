-- The rounds of settling one by one: what is reached after each, that each closes a pair, and what the last one leaves.
use Rattle.std.proofs.Common.{◌≡◌, ℕ, zero, suc, ◌+◌, ◌-◌, ◌*◌, ◌≤◌, Bool, true, false, not, ◌&&◌, ltb, List, length, get_or, replicate, is_some, Some, None, Option, sym, refl, ap, ◌∙◌, inl, inr, add-one, arith}
use mathlib.Core.Path.{fun_ext}
use Rattle.std.proofs.lemmas.List.{get_or_past}
use Rattle.std.proofs.lemmas.Bool.{cases_lt, lt-ltb, le-ltb, cond-true, cond-false, true≢false, false≢true}
use Rattle.fleet.specs.Sets.{any_below, sum_below, lowest}
use Rattle.fleet.specs.Market.{Market, Placement, staff}
use Rattle.fleet.proofs.Sizes.{false_since, any_some, any_from, sum_le}
use Rattle.fleet.proofs.First.{lowest_some, none_below}
use Rattle.fleet.proofs.Ranks.{on_getD}
use Rattle.policy.specs.Choice.{Policy}
use Rattle.matching.specs.Entries.{tabulate}
use Rattle.matching.specs.Stable.{Given}
use Rattle.matching.specs.Settling.{stands, rejected, next_round, settle_from, pairs, all_open, settling, away}
use Rattle.matching.proofs.Rounds.{past_stays, next_short}
use Rattle.matching.proofs.Settles.{round_closes, start}

none_since : (o : Option ℕ) → is_some o ≡ false → o ≡ None
none_since None e = refl
none_since (Some v) e = absurd (true≢false e)

some_since : (o : Option ℕ) → is_some o ≡ true → (v : ℕ) × (o ≡ Some v)
some_since None e = absurd (false≢true e)
some_since (Some v) e = (v, refl)

-- after n rounds
pub record Reached (m : Market) (C : Policy) (n : ℕ) (closed : List ℕ) : Type 0 where
  -- settling goes on from here
  pub so_far : settling m C ≡ settle_from m C (pairs m - n) n closed
  -- each round has closed a pair
  pub many : n ≤ sum_below m.workers (λ w. get_or closed w 0)
  pub short : (w : ℕ) → get_or closed w 0 ≤ length (m.list w)

pub zeros : replicate 64 0 ≡ all_open
unfolding tabulate
zeros = refl

sum_most : (k : ℕ) (f : ℕ → ℕ) → ((t : ℕ) → f t ≤ 16) → sum_below k f ≤ 16 * k
sum_most zero f h = omega arith
sum_most (suc k) f h = omega (arith, sum_most k f h, h k)

module _ {m : Market} {C : Policy} (given : Given m C) where
  pub pairs_few : pairs m ≤ 1024
  pairs_few = omega (arith, sum_most m.workers (λ w. length (m.list w)) given.sound.short_lists, given.sound.few_workers)

  -- a worker stands with a tenant exactly where it has an open pair
  stands_open : (closed : List ℕ) (w : ℕ) → ltb (stands m closed w) 16 ≡ ltb (get_or closed w 0) (length (m.list w))
  stands_open closed w =
      let k = get_or closed w 0 in
      let l = m.list w in
      elim (cases_lt k (length l)) [
        | inl q ↦ lt-ltb (get_or l k 255) 16 (omega (arith, given.sound.listed_below w (get_or l k 255) (on_getD l k 255 q), given.sound.few_tenants)) ∙ sym (lt-ltb k (length l) q)
        | inr q ↦ le-ltb (get_or l k 255) 16 (omega (arith, get_or_past l k 255 q)) ∙ sym (le-ltb k (length l) q)
      ]

  -- so those that their tenants turn away are the rejected
  pub away_rejected : (closed : List ℕ) (x : Placement) → x ≡ stands m closed → away C x 16 ≡ rejected m C closed
  away_rejected closed x e =
      ap (λ (y : Placement). away C y 16) e ∙
      fun_ext (λ w. ap (λ (b : Bool). b && not (C (stands m closed w) (staff (stands m closed) (stands m closed w)) w)) (stands_open closed w))

  pub reached_start : Reached m C 0 all_open
  reached_start = let e : pairs m ≡ pairs m - 0 = omega arith in record {
    so_far = ap (λ (k : ℕ). settle_from m C k 0 all_open) e;
    many = omega arith;
    short = λ w. omega (arith, start given w);
  }

  module _ {n : ℕ} {closed : List ℕ} (now : Reached m C n closed) where
    pub reached_few : n ≤ pairs m
    reached_few = omega (arith, now.many, sum_le m.workers (λ w. get_or closed w 0) (λ w. length (m.list w)) (λ w h. now.short w))

    -- the last round
    pub reached_end : is_some (lowest 64 (rejected m C closed)) ≡ false → settling m C ≡ record { closed = closed; rounds = suc n }
    reached_end e = now.so_far ∙ go (pairs m - n)
      where
        calm : any_below m.workers (rejected m C closed) ≡ false
        calm = false_since (any_below m.workers (rejected m C closed)) (λ h.
            let (w, l, r) = any_some (rejected m C closed) m.workers h in
            let off = none_below 64 (rejected m C closed) (none_since _ e) w (omega (arith, given.sound.few_workers)) in
            grind arith)

        go : (k : ℕ) → settle_from m C k n closed ≡ record { closed = closed; rounds = suc n }
        go zero = refl
        go (suc k) = cond-false _ (settle_from m C k (suc n) (next_round m C closed)) (record { closed = closed; rounds = suc n }) calm

    -- one round more
    module _ (e : is_some (lowest 64 (rejected m C closed)) ≡ true) where
      busy : any_below m.workers (rejected m C closed) ≡ true
      busy =
          let (v, f) = some_since (lowest 64 (rejected m C closed)) e in
          let (r, l) = lowest_some 64 (rejected m C closed) v f in
          elim (cases_lt v m.workers) [
            | inl q ↦ any_from (rejected m C closed) m.workers v q r
            | inr q ↦ absurd (let off = past_stays given closed v q in grind arith)
          ]

      pub reached_next : Reached m C (n + 1) (next_round m C closed)
      reached_next =
          let more = round_closes given closed now.short busy in
          let short = next_short given closed now.short in
          let most = sum_le m.workers (λ w. get_or (next_round m C closed) w 0) (λ w. length (m.list w)) (λ w h. short w) in
          let fuel : pairs m - n ≡ suc (pairs m - (n + 1)) = omega (arith, now.many) in
          record {
            so_far = now.so_far ∙ ap (λ (k : ℕ). settle_from m C k n closed) fuel ∙
                cond-true _ (settle_from m C (pairs m - (n + 1)) (suc n) (next_round m C closed)) (record { closed = closed; rounds = suc n }) busy ∙
                ap (λ (k : ℕ). settle_from m C (pairs m - (n + 1)) k (next_round m C closed)) (sym (add-one n));
            many = omega (arith, now.many);
            short = short;
          }
