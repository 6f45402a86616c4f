-- Policies made of others keep the laws: joined ones, and those that leave workers in quarantine out.
use Rattle.std.specs.Prelude.{◌≡◌, ℕ, ◌+◌, ◌-◌, ◌≤◌, min, Bool, true, false, cond, nat_lt, refl}
use Rattle.std.proofs.Common.{arith, le_refl}
use Rattle.std.proofs.lemmas.Bool.{ltb-true, ltb-false, false≢true}
use Rattle.fleet.specs.Sets.{Set, nobody, minus, Workers, size}
use Rattle.policy.specs.Choice.{Choice, Policy, Inside, Substitutable, Monotone, Lawful, KeepsLaws}
use Rattle.policy.specs.Combined.{joined, quarantined}
use Rattle.policy.specs.Choose.{consistent_from}

-- choosing nobody is lawful
pub nobody_lawful : Lawful (λ Z. nobody)
nobody_lawful = record {
  inside = λ Z small w h. absurd (false≢true h);
  substitutable = λ Z Y small i w h y. h;
  monotone = λ Z Y small i. le_refl (size nobody);
  consistent = λ Z Y small i g. refl;
}

pub cond_lawful : (b : Bool) (C D : Choice) → Lawful C → Lawful D → Lawful (λ Z. cond b (C Z) (D Z))
cond_lawful true C D c d = c
cond_lawful false C D c d = d

pub joined_keeps : (n m : ℕ) (C D : Policy) → KeepsLaws n C → KeepsLaws m D → KeepsLaws (min (n + m) 16) (joined n C D)
joined_keeps n m C D c d = record {
  few = omega arith;
  laws = λ t. cond_lawful (nat_lt t n) (C t) (λ Z. cond (nat_lt t 16) (D (t - n) Z) nobody) (c.laws t) (cond_lawful (nat_lt t 16) (D (t - n)) (λ Z. nobody) (d.laws (t - n)) nobody_lawful);
  past = λ t h Z. go t h Z (nat_lt t n) refl (nat_lt t 16) refl;
}
  where
    go : (t : ℕ) → min (n + m) 16 ≤ t → (Z : Set) → (a : Bool) → nat_lt t n ≡ a → (b : Bool) → nat_lt t 16 ≡ b → cond a (C t Z) (cond b (D (t - n) Z) nobody) ≡ nobody
    go t h Z true p b q = absurd (let l = ltb-true t n p in let f = c.few in omega arith)
    go t h Z false p true q = d.past (t - n) (let l = ltb-false t n p in let k = ltb-true t 16 q in omega arith) Z
    go t h Z false p false q = refl

module _ (Q : Set) (C : Choice) (c : Lawful C) where
  smaller : (Z : Set) → Workers Z → Workers (minus Z Q)
  smaller Z small w h = let k = small w in grind arith

  inside : Inside (λ Z. C (minus Z Q))
  inside Z small w h = let k = c.inside (minus Z Q) (smaller Z small) w h in grind arith

  substitutable : Substitutable (λ Z. C (minus Z Q))
  substitutable Z Y small i w h y =
      let k = c.inside (minus Z Q) (smaller Z small) w h in
      c.substitutable (minus Z Q) (minus Y Q) (smaller Z small) (λ v j. let m = i v in grind arith) w h (grind arith)

  monotone : Monotone (λ Z. C (minus Z Q))
  monotone Z Y small i = c.monotone (minus Z Q) (minus Y Q) (smaller Z small) (λ v j. let m = i v in grind arith)

  quarantined_lawful : Lawful (λ Z. C (minus Z Q))
  quarantined_lawful = record {
    inside = inside;
    substitutable = substitutable;
    monotone = monotone;
    consistent = consistent_from (λ Z. C (minus Z Q)) inside substitutable monotone;
  }

pub quarantined_keeps : (Q : Set) (n : ℕ) (C : Policy) → KeepsLaws n C → KeepsLaws n (quarantined Q C)
quarantined_keeps Q n C c = record {
  few = c.few;
  laws = λ t. quarantined_lawful Q (C t) (c.laws t);
  past = λ t h Z. c.past t h (minus Z Q);
}
