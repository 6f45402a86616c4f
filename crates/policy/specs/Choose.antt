-- Path independence and idempotence of a lawful choice; consistency from the other three laws.
use Rattle.std.specs.Prelude.{◌≡◌, ℕ, ◌<◌, false}
use Rattle.std.proofs.Common.{arith, sym, ap, ◌∙◌}
use Rattle.std.proofs.lemmas.Bool.{or_left, or_right}
use Rattle.std.proofs.lemmas.Bool.Decides.{nat_tests}
use Rattle.fleet.specs.Sets.{Set, Within, Workers, union, insert}
use Rattle.fleet.proofs.Sizes.{set_ext, same_at, false_since, size_same}
use Rattle.policy.specs.Choice.{Choice, Inside, Substitutable, Monotone, Consistent, Lawful}

pub consistent_from : (C : Choice) → Inside C → Substitutable C → Monotone C → Consistent C
consistent_from C inside subs mono Z Y small h chosen =
    sym (size_same (C Z) (C Y) (λ w i. small w (h w (inside Y (λ v k. small v (h v k)) w i))) (λ w i. subs Z Y small h w i (chosen w i)) (mono Z Y small h))

module _ {C : Choice} (law : Lawful C) where
  pub idempotent : (Z : Set) → Workers Z → C (C Z) ≡ C Z
  idempotent Z small = law.consistent Z (C Z) small (law.inside Z small) (λ w h. h)

  pub path_independent : (A B : Set) → Workers (union A B) → C (union (C A) B) ≡ C (union A B)
  path_independent A B small =
      law.consistent (union A B) (union (C A) B) small
      (λ w h. let i = law.inside A (λ v k. small v (or_left (A v) (B v) k)) w in grind arith)
      (λ w h. let i = law.inside (union A B) small w h in let s = law.substitutable (union A B) A small (λ v k. or_left (A v) (B v) k) w h in grind arith)

  -- if nobody outside Y is chosen of Z, and Y is chosen whole, then Y is what is chosen
  pub chosen_is : (Z Y : Set) → Workers Z → Within Y Z → Within (C Z) Y → C Y ≡ Y → C Z ≡ Y
  chosen_is Z Y small f g e = sym (law.consistent Z Y small f g) ∙ e

  -- who is refused stays refused while those who were chosen stay
  pub still_refused : (X Y : Set) (w : ℕ) → Workers X → Workers Y → w < 64 → Within (C X) Y → C (insert X w) w ≡ false → C (insert Y w) w ≡ false
  still_refused X Y w sx sy l f out = false_since (C (insert Y w) w) (λ h.
      let i = law.substitutable (union X (insert Y w)) (insert X w) small (λ v i. grind (arith, nat_tests)) w (same_at grown w ∙ h) (grind (arith, nat_tests)) in
      grind arith)
    where
      small : Workers (union X (insert Y w))
      small v h = let a = sx v in let b = sy v in grind (arith, nat_tests)

      grown : C (union X (insert Y w)) ≡ C (insert Y w)
      grown =
          sym (path_independent X (insert Y w) small) ∙
          ap C (set_ext (union (C X) (insert Y w)) (insert Y w) (λ v h. let i = f v in grind arith) (λ v h. or_right (C X v) (insert Y w v) h))
