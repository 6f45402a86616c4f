-- Policies that choose alike settle alike.
use Rattle.std.proofs.Common.{◌≡◌, ℕ, zero, suc, ◌+◌, ◌<◌, Bool, true, false, cond, not, ◌&&◌, ltb, ◌⊎◌, List, length, get_or, refl, ap, ◌∙◌, inl, inr, arith}
use mathlib.Core.Path.{fun_ext}
use Rattle.std.proofs.lemmas.Bool.{eqb-true, ltb-true}
use Rattle.fleet.specs.Sets.{any_below}
use Rattle.fleet.specs.Market.{Market, Sound, Placement, On, staff}
use Rattle.fleet.proofs.Ranks.{on_getD}
use Rattle.policy.specs.Choice.{Policy, Alike}
use Rattle.matching.specs.Entries.{tabulate}
use Rattle.matching.specs.Settling.{stands, rejected, next_round, Outcome, settle_from, pairs, all_open, settling}
use Rattle.matching.proofs.Facts.{on_worker}
use Rattle.matching.proofs.Rounds.{stands_listed}

module _ {m : Market} {C D : Policy} (sound : Sound m) (alike : Alike m C D) where
  -- who is placed with a tenant is one of the market's workers
  pub staff_below : (x : Placement) → ((w : ℕ) → (x w ≡ 255) ⊎ On (m.list w) (x w)) → (t : ℕ) → t < m.tenants → (w : ℕ) → staff x t w ≡ true → w < m.workers
  staff_below x listed t h w s = elim (listed w) [
    | inl e ↦ absurd (let z : x w ≡ t = eqb-true (x w) t s in omega (arith, sound.few_tenants))
    | inr o ↦ on_worker sound w (x w) o
  ]

  rejected_alike : (closed : List ℕ) → rejected m C closed ≡ rejected m D closed
  rejected_alike closed = fun_ext λ w. at w (ltb (get_or closed w 0) (length (m.list w))) refl
    where
      at : (w : ℕ) (b : Bool) → ltb (get_or closed w 0) (length (m.list w)) ≡ b →
          (b && not (C (stands m closed w) (staff (stands m closed) (stands m closed w)) w)) ≡ (b && not (D (stands m closed w) (staff (stands m closed) (stands m closed w)) w))
      at w false e = refl
      at w true e =
          let t = stands m closed w in
          let below : t < m.tenants = sound.listed_below w t (on_getD (m.list w) (get_or closed w 0) 255 (ltb-true (get_or closed w 0) (length (m.list w)) e)) in
          ap (λ f. not (f w)) (alike t below (staff (stands m closed) t) (staff_below (stands m closed) (stands_listed m closed) t below))

  settle_alike : (n done : ℕ) (closed : List ℕ) → settle_from m C n done closed ≡ settle_from m D n done closed
  settle_alike zero done closed = refl
  settle_alike (suc n) done closed =
      let any : any_below m.workers (rejected m C closed) ≡ any_below m.workers (rejected m D closed) = ap (any_below m.workers) (rejected_alike closed) in
      let round : next_round m C closed ≡ next_round m D closed = ap (λ f. tabulate 64 (λ w. get_or closed w 0 + cond (f w) 1 0)) (rejected_alike closed) in
      let more : settle_from m C n (suc done) (next_round m C closed) ≡ settle_from m D n (suc done) (next_round m D closed) =
      settle_alike n (suc done) (next_round m C closed) ∙ ap (settle_from m D n (suc done)) round in
      let last : Outcome = record { closed = closed; rounds = suc done } in
      ap (λ b. cond b (settle_from m C n (suc done) (next_round m C closed)) last) any ∙
      ap (λ s. cond (any_below m.workers (rejected m D closed)) s last) more

  pub settled_alike : settling m C ≡ settling m D
  settled_alike = settle_alike (pairs m) 0 all_open
