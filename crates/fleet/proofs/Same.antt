-- Words as sets: their members are workers, words with the same members are the same, and what adding or removing a number gives below 64 and past 63.
use Rattle.std.proofs.Common.{◌≡◌, ℕ, ◌^◌, ◌<◌, ◌≤◌, ◌⊎◌, ap, subst, inl, inr, arith}
use native.Mathlib.Bridge.{le_prop}
use mathlib.Core.Path.{fun_ext}
use Rattle.std.proofs.lemmas.Bool.{cases_lt, both_ways}
use Rattle.std.proofs.lemmas.Bool.Decides.{nat_tests}
use Rattle.fleet.specs.Sets.{Set, Workers, singleton, insert, with_worker, minus}
use Rattle.fleet.specs.declared.worker_set.WorkerSet.{WorkerSet}
use Rattle.fleet.specs.Members.{members, bit}
use Rattle.fleet.proofs.Bitwise.{past_bit, same_bits}

pub word_workers : (n : ℕ) → n < 2 ^ 64 → Workers (bit n)
word_workers n fits w h = go (cases_lt w 64)
  where
    go : (w < 64) ⊎ (64 ≤ w) → w < 64
    go (inl k) = k
    go (inr k) = absurd (both_ways (bit n w) (past_bit 64 n w fits k) h)

pub members_workers : (s : WorkerSet) → Workers (members s)
members_workers s = word_workers s.bits s.fits

pub same_members : (s t : WorkerSet) → members s ≡ members t → s.bits ≡ t.bits
same_members s t e = same_bits 64 s.bits t.bits s.fits t.fits (λ w. ap (λ (A : Set). A w) e)

-- so a set is its members
pub same_set : (s t : WorkerSet) → members s ≡ members t → s ≡ t
same_set s t e = go s.bits t.bits (same_members s t e) s.fits t.fits
  where
    word : (a : ℕ) → a < 2 ^ 64 → WorkerSet
    word a p = record { bits = a; fits = p }

    go : (a b : ℕ) → a ≡ b → (p : a < 2 ^ 64) (q : b < 2 ^ 64) → word a p ≡ word b q
    go a b k p q = subst (λ (x : ℕ). (f : x < 2 ^ 64) → word a p ≡ word x f) k (λ f. ap (word a) (le_prop p f)) q

-- below 64, `with_worker` inserts
pub with_insert : (A : Set) (v : ℕ) → v < 64 → with_worker A v ≡ insert A v
with_insert A v l = fun_ext (λ w. grind (arith, nat_tests))

-- a number past 63 takes nothing away
pub without_past : (A : Set) (v : ℕ) → Workers A → 64 ≤ v → minus A (singleton v) ≡ A
without_past A v small l = fun_ext (λ w. let h = small w in grind (arith, nat_tests))
