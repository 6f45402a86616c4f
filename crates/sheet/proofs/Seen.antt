-- Marking the numbers of a list as seen, one after the other.
use Rattle.std.proofs.Common.{◌≡◌, ℕ, ◌+◌, ◌<◌, Bool, true, false, ◌||◌, eqb, ◌⊎◌, List, length, get_or, take, set, sym, ap, ◌∙◌, inl, inr, arith}
use Rattle.std.proofs.lemmas.List.{take_more, get_or-set_same, get_or-set_other}
use Rattle.std.proofs.lemmas.Bool.{cases_eq, eq-eqb, ne_eqb, or_right}
use Rattle.fleet.specs.Sets.{among}
use Rattle.fleet.proofs.Different.{among_push}

-- after the number at place i is marked, the marks are those of the first i + 1 numbers
pub mark_next : (seen : List Bool) (l : List ℕ) (i : ℕ) → i < length l → get_or l i 0 < length seen →
    ((v : ℕ) → v < length seen → get_or seen v false ≡ among (take i l) v) →
    (v : ℕ) → v < length seen → get_or (set seen (get_or l i 0) true) v false ≡ among (take (i + 1) l) v
mark_next seen l i h fits marks v small = go (cases_eq v (get_or l i 0)) ∙ sym (ap (λ k. among k v) (take_more l i 0 h) ∙ among_push (take i l) (get_or l i 0) v)
  where
    x : ℕ
    x = get_or l i 0

    go : (v ≡ x) ⊎ (v ≡ x → ⊥) → get_or (set seen x true) v false ≡ (among (take i l) v || eqb x v)
    go (inl e) = rw e (get_or-set_same seen x true false fits) ∙ sym (or_right (among (take i l) v) (eqb x v) (eq-eqb x v (sym e)))
    go (inr n) = get_or-set_other seen x v true false n ∙ marks v small ∙ grind (arith, ne_eqb x v (λ e. n (sym e)))
