-- A table whose entries pass the tests is a lawful choice, and consistent index by index.
use Rattle.std.specs.Prelude.{◌≡◌, ℕ, ◌^◌, ◌<◌, ◌≤◌, true, false, not, ◌&&◌, List, length, ◌==◌, bit_and, count_ones, slice_index, slice_index_or}
use Rattle.std.proofs.Common.{arith, sym, ap, ◌∙◌, pow_mono}
use Rattle.std.proofs.lemmas.Nat.{and_le_r}
use Rattle.std.proofs.lemmas.Bool.{eqb-true, and_parts, and_from, not-false}
use Rattle.std.proofs.lemmas.Bool.Decides.{nat_tests}
use Rattle.fleet.specs.Sets.{Set, Workers, among, size}
use Rattle.fleet.specs.Market.{rank, On, different}
use Rattle.fleet.specs.Members.{bit}
use Rattle.fleet.proofs.Bitwise.{and_bit}
use Rattle.fleet.proofs.Different.{among_getD, among_on, rank_same}
use Rattle.fleet.proofs.Ranks.{rank_inj, getD_rank}
use Rattle.fleet.proofs.Sizes.{size_into, false_since}
use Rattle.policy.specs.Choice.{Inside, Substitutable, Monotone, Lawful}
use Rattle.policy.specs.Tables.{index_of, table_choice, bits_within, breaks_consistency, LawfulEntries}
use Rattle.policy.specs.Choose.{consistent_from}
use Rattle.policy.specs.Indices.{bit_within, size_ones, same_ones, index_below, index_bit, bit_index, index_within}

module _ (n : ℕ) (es : List ℕ) (few : n ≤ 64) (law : LawfulEntries (2 ^ n) es) where
  entry_below : (z : ℕ) → z < 2 ^ n → slice_index es z < 2 ^ 64
  entry_below z l =
      let e = eqb-true (bit_and (slice_index es z) z) (slice_index es z) (not-false (bits_within (slice_index es z) z) (law.inside z l)) in
      let p : 2 ^ n ≤ 2 ^ 64 = pow_mono few in
      omega (arith, and_le_r (slice_index es z) z)

  -- no two entries break consistency
  pub entries_consistent : (z y : ℕ) → z < 2 ^ n → y < 2 ^ n → breaks_consistency es z y ≡ false
  entries_consistent z y l m = false_since (breaks_consistency es z y) (λ h.
      let subs = law.substitutable z y l m in
      let mono = law.monotone z y l m in
      let p = and_parts (bits_within y z) (bits_within (slice_index es z) y && not (slice_index es y == slice_index es z)) h in
      let q = and_parts (bits_within (slice_index es z) y) (not (slice_index es y == slice_index es z)) p.1 in
      let all : bit_and (slice_index es z) y ≡ slice_index_or es z 0 = eqb-true (bit_and (slice_index es z) y) (slice_index es z) q.0 in
      let chosen : bits_within (bit_and (slice_index es z) y) (slice_index es y) ≡ true = grind arith in
      let still : bits_within (slice_index es z) (slice_index es y) ≡ true = rw all at chosen in
      let same = same_ones (slice_index es z) (slice_index es y) (entry_below z l) (entry_below y m) still (grind (arith, nat_tests)) in
      grind (arith, nat_tests))

module _ (ws es : List ℕ) (few : length ws ≤ 64) (d : different ws ≡ true) (law : LawfulEntries (2 ^ length ws) es) where
  -- the entry for a set
  abbrev entry : Set → ℕ
  entry Z = slice_index es (index_of ws Z)

  entry_within : (Z : Set) → bits_within (entry Z) (index_of ws Z) ≡ true
  entry_within Z = not-false (bits_within (entry Z) (index_of ws Z)) (law.inside (index_of ws Z) (index_below ws Z))

  -- who has a bit in the entry has one in the index
  entry_bit : (Z : Set) (k : ℕ) → bit (entry Z) k ≡ true → (k < length ws) × (Z (slice_index ws k) ≡ true)
  entry_bit Z k h =
      let i = bit_within (entry Z) (index_of ws Z) k (entry_within Z) h in
      let l = bit_index ws Z k i in
      (l, sym (index_bit ws Z k 0 l) ∙ i)

  listed : (v : ℕ) → among ws v ≡ true → On ws v
  listed v h = let e = among_on ws v in grind (arith, nat_tests)

  inside : Inside (table_choice ws es)
  inside Z small v h =
      let p = and_parts (among ws v) (bit (entry Z) (rank ws v)) h in
      ap Z (sym (getD_rank ws v 0 (listed v p.0))) ∙ (entry_bit Z (rank ws v) p.1).1

  substitutable : Substitutable (table_choice ws es)
  substitutable Z Y small i v h y =
      let p = and_parts (among ws v) (bit (entry Z) (rank ws v)) h in
      let l = listed v p.0 in
      let here : bit (index_of ws Y) (rank ws v) ≡ true = index_bit ws Y (rank ws v) 0 l ∙ ap Y (getD_rank ws v 0 l) ∙ y in
      let both : bit (bit_and (entry Z) (index_of ws Y)) (rank ws v) ≡ true = and_bit (entry Z) (index_of ws Y) (rank ws v) ∙ and_from _ _ p.1 here in
      let within = index_within ws Y Z i in
      let whole = law.substitutable (index_of ws Z) (index_of ws Y) (index_below ws Z) (index_below ws Y) in
      let kept : bits_within (bit_and (entry Z) (index_of ws Y)) (entry Y) ≡ true = grind arith in
      and_from _ _ p.0 (bit_within (bit_and (entry Z) (index_of ws Y)) (entry Y) (rank ws v) kept both)

  -- as many are chosen as the entry has bits
  size_entry : (Z : Set) → Workers Z → size (table_choice ws es Z) ≡ count_ones (entry Z)
  size_entry Z small = omega (arith, size_ones (entry Z) (entry_below (length ws) es few law (index_of ws Z) (index_below ws Z)), at_most, at_least)
    where
      at_most : size (table_choice ws es Z) ≤ size (bit (entry Z))
      at_most = size_into (table_choice ws es Z) (bit (entry Z)) (rank ws)
          (λ k h. omega (arith, (entry_bit Z k h).0))
          (λ v h. (and_parts (among ws v) (bit (entry Z) (rank ws v)) h).1)
          (λ u v h i e. rank_inj ws u v (listed u (and_parts (among ws u) (bit (entry Z) (rank ws u)) h).0) e)

      at_least : size (bit (entry Z)) ≤ size (table_choice ws es Z)
      at_least = size_into (bit (entry Z)) (table_choice ws es Z) (λ k. slice_index ws k)
          (λ v h. small v (inside Z small v h))
          (λ k h. let l = (entry_bit Z k h).0 in let e = rank_same ws d k 0 l in rw e (and_from (among ws (slice_index ws k)) (bit (entry Z) k) (among_getD ws k 0 l) h))
          (λ j k h i e. sym (rank_same ws d j 0 (entry_bit Z j h).0) ∙ ap (rank ws) e ∙ rank_same ws d k 0 (entry_bit Z k i).0)

  monotone : Monotone (table_choice ws es)
  monotone Z Y small i =
      let a = size_entry Z small in
      let b = size_entry Y (λ w h. small w (i w h)) in
      let within = index_within ws Y Z i in
      let whole = law.monotone (index_of ws Z) (index_of ws Y) (index_below ws Z) (index_below ws Y) in
      grind (arith, nat_tests)

  pub table_lawful : Lawful (table_choice ws es)
  table_lawful = record {
    inside = inside;
    substitutable = substitutable;
    monotone = monotone;
    consistent = consistent_from (table_choice ws es) inside substitutable monotone;
  }
