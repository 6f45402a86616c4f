-- Every value of `Lists` is a sound market, also where all lists are empty and where one is replaced.
use Rattle.std.proofs.Common.{◌≡◌, ℕ, ◌<◌, ◌≤◌, true, ◌≢◌, ◌⊎◌, List, [], length, set, replicate, sym, ap, ◌∙◌, subst, inl, inr, ⊎_elim, arith}
use mathlib.Core.Path.{fun_ext}
use Rattle.std.proofs.lemmas.List.{get_or_past, get_or-replicate, length-replicate, nil_from_length, get_or-set_same, get_or-set_other}
use Rattle.std.proofs.lemmas.Bool.{cases_lt, cases_eq}
use Rattle.fleet.specs.Sets.{among, all_under}
use Rattle.fleet.specs.Market.{Market, Sound}
use Rattle.fleet.specs.declared.ranking.Ranking.{Ranking}
use Rattle.fleet.specs.declared.lists.Lists.{Lists}
use Rattle.fleet.specs.Rankings.{listed, no_ranking, row}
use Rattle.fleet.specs.Lists.{market, no_lists}
use Rattle.fleet.proofs.Different.{on_among, under_each}
use Rattle.fleet.proofs.Pushing.{listed_length}

pub lists_sound : (l : Lists) → Sound (market l)
lists_sound l = record {
  some_workers = l.manned;
  some_tenants = l.hosted;
  few_workers = l.crew;
  few_tenants = l.hosts;
  short_lists = λ w. let r = row l.rows w in omega (arith, listed_length r, r.short);
  listed_below = λ w t o. l.below w t (on_among ((market l).list w) t o);
  past_empty = λ w h. let r = row l.rows w in nil_from_length (listed r) (listed_length r ∙ l.past w h);
  no_repeats = λ w. (row l.rows w).apart;
}

-- all lists empty

pub empty_rows : (r : Ranking 16) → listed r ≡ [] → (w : ℕ) → listed (row (replicate 64 r) w) ≡ []
empty_rows r e w =
    ⊎_elim
    (λ (q : w < 64). ap (λ (s : Ranking 16). listed s) (get_or-replicate 64 w r (no_ranking 16) q) ∙ e)
    (λ (q : 64 ≤ w). ap (λ (s : Ranking 16). listed s) (get_or_past (replicate 64 r) w (no_ranking 16) (omega (arith, length-replicate 64 r))))
    (cases_lt w 64)

pub empty_len : (r : Ranking 16) → listed r ≡ [] → r.len ≡ 0
empty_len r e = sym (listed_length r) ∙ ap length e

pub empty_market : (r : Ranking 16) → listed r ≡ [] → (w t : ℕ) →
    ◌≡◌ {A = Market} (record { workers = w; tenants = t; list = λ v. listed (row (replicate 64 r) v) }) (no_lists w t)
empty_market r e w t = ap (λ (f : ℕ → List ℕ). record { workers = w; tenants = t; list = f }) (fun_ext (empty_rows r e))

-- one list replaced

module _ (l : Lists) (w : ℕ) (r : Ranking 16) (known : w < l.workers) (under : all_under l.tenants (listed r) ≡ true) where
  at_same : row (set l.rows w r) w ≡ r
  at_same = get_or-set_same l.rows w r (no_ranking 16) (omega arith)

  at_other : (v : ℕ) → v ≢ w → row (set l.rows w r) v ≡ row l.rows v
  at_other v n = get_or-set_other l.rows w v r (no_ranking 16) n

  pub set_below : (v t : ℕ) → among (listed (row (set l.rows w r) v)) t ≡ true → t < l.tenants
  set_below v t h = go (cases_eq v w)
    where
      go : (v ≡ w) ⊎ (v ≢ w) → t < l.tenants
      go (inl e) =
          let s : row (set l.rows w r) v ≡ r = ap (λ (k : ℕ). row (set l.rows w r) k) e ∙ at_same in
          under_each l.tenants (listed r) under t (subst (λ (s : Ranking 16). among (listed s) t ≡ true) s h)
      go (inr n) = l.below v t (subst (λ (s : Ranking 16). among (listed s) t ≡ true) (at_other v n) h)

  pub set_past : (v : ℕ) → l.workers ≤ v → (row (set l.rows w r) v).len ≡ 0
  set_past v h = ap (λ (s : Ranking 16). s.len) (at_other v (omega arith)) ∙ l.past v h
