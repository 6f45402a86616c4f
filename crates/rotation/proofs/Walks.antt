-- The walk along the successors finds the rotation of a worker, if it is on one.
use Rattle.std.proofs.Common.{◌≡◌, ℕ, zero, suc, ◌+◌, ◌<◌, ◌≤◌, Bool, true, false, eqb, ◌⊎◌, List, [], ◌∷◌, Some, None, Option, sym, refl, ap, ◌∙◌, subst, inl, inr, arith}
use Rattle.std.proofs.lemmas.Bool.{eqb-true, eqb-false, eq-eqb, both_ways, or_left, or_right, or_cases}
use Rattle.fleet.specs.Sets.{among}
use Rattle.fleet.specs.Market.{Market, Placement}
use Rattle.policy.specs.Choice.{Policy}
use Rattle.fleet.specs.declared.Move.{Move}
use Rattle.fleet.proofs.First.{SomeInj, Some≢None}
use Rattle.matching.specs.Stepping.{successor}
use Rattle.rotation.specs.Rotation.{later, Follows, OnRotation}
use Rattle.rotation.specs.Moves.{walk_from, walk_turn, walk_next, walk, moves_of_walk, rotation_at, Rotates}
use Rattle.rotation.proofs.Later.{later_inv, later_suc, later_none}
use Rattle.rotation.proofs.Cycles.{soon_again}

module _ (m : Market) (C : Policy) (x : Placement) where
  -- one step of the walk
  record Walked (w n v : ℕ) (us : List ℕ) : Type 0 where
    next : ℕ
    follows : successor m C x v ≡ Some next
    then : ((next ≡ w) × (us ≡ v ∷ [])) ⊎ ((rest : List ℕ) × (walk m C x w n next ≡ Some rest) × (us ≡ v ∷ rest))

  walk_inv : (w n v : ℕ) (us : List ℕ) → walk m C x w (suc n) v ≡ Some us → Walked w n v us
  unfolding walk
  walk_inv w n v us e = at (successor m C x v) refl e
    where
      joined : (u : ℕ) → successor m C x v ≡ Some u → (o : Option (List ℕ)) → walk m C x w n u ≡ o → walk_from v o ≡ Some us → Walked w n v us
      joined u s None h e = absurd (Some≢None (sym e))
      joined u s (Some rest) h e = record { next = u; follows = s; then = inr (rest, h, sym (SomeInj e)) }

      turn : (u : ℕ) → successor m C x v ≡ Some u → (b : Bool) → eqb u w ≡ b → walk_turn v u (λ y. walk m C x w n y) b ≡ Some us → Walked w n v us
      turn u s true q e = record { next = u; follows = s; then = inl (eqb-true u w q, sym (SomeInj e)) }
      turn u s false q e = joined u s (walk m C x w n u) refl e

      at : (o : Option ℕ) → successor m C x v ≡ o → walk_next w v (λ y. walk m C x w n y) o ≡ Some us → Walked w n v us
      at None s e = absurd (Some≢None (sym e))
      at (Some u) s e = turn u s (eqb u w) refl e

  -- the walk begins with v
  walk_first : (w n v : ℕ) (us : List ℕ) → walk m C x w n v ≡ Some us → among us v ≡ true
  unfolding walk
  walk_first w zero v us e = absurd (Some≢None (sym e))
  walk_first w (suc n) v us e = elim (walk_inv w n v us e).then [ inl (p, q) ↦ here [] q | inr (rest, h, q) ↦ here rest q ]
    where
      here : (rest : List ℕ) → us ≡ v ∷ rest → among us v ≡ true
      here rest q = rw q (or_left (eqb v v) (among rest v) (eq-eqb v v refl))

  -- it holds only what follows v
  walk_follows : (w n v : ℕ) (us : List ℕ) → walk m C x w n v ≡ Some us → Follows m C x w v → (u : ℕ) → among us u ≡ true → Follows m C x w u
  unfolding walk
  walk_follows w zero v us e f u o = absurd (Some≢None (sym e))
  walk_follows w (suc n) v us e f u o =
      let k = walk_inv w n v us e in
      let on : Follows m C x w k.next = (suc f.0, later_suc m C x f.0 w v (Some k.next) f.1 k.follows) in
      elim k.then [
        | inl (p, q) ↦ elim (or_cases (eqb v u) false (rw q at o)) [ inl h ↦ subst (Follows m C x w) (eqb-true v u h) f | inr h ↦ absurd (both_ways false refl h) ]
        | inr (rest, h, q) ↦ elim (or_cases (eqb v u) (among rest u) (rw q at o)) [
          | inl h' ↦ subst (Follows m C x w) (eqb-true v u h') f
          | inr h' ↦ walk_follows w n k.next rest h on u h'
        ]
      ]

  -- it comes to w again
  walk_again : (w n v : ℕ) (us : List ℕ) (i : ℕ) → walk m C x w n v ≡ Some us → later m C x i w ≡ Some v → (p : ℕ) × (i < p) × (later m C x p w ≡ Some w)
  unfolding walk
  walk_again w zero v us i e l = absurd (Some≢None (sym e))
  walk_again w (suc n) v us i e l =
      let k = walk_inv w n v us e in
      let on : later m C x (suc i) w ≡ Some k.next = later_suc m C x i w v (Some k.next) l k.follows in
      elim k.then [
        | inl (p, q) ↦ (suc i, omega arith, on ∙ ap Some p)
        | inr (rest, h, q) ↦ (let (j, a, b) = walk_again w n k.next rest (suc i) h on in (j, omega arith, b))
      ]

  -- it is closed under successors, but for w itself
  walk_closed : (w n v : ℕ) (us : List ℕ) → walk m C x w n v ≡ Some us → (u z : ℕ) → among us u ≡ true → successor m C x u ≡ Some z →
      (among us z ≡ true) ⊎ (z ≡ w)
  unfolding walk
  walk_closed w zero v us e u z o s = absurd (Some≢None (sym e))
  walk_closed w (suc n) v us e u z o s =
      let k = walk_inv w n v us e in
      elim k.then [
        | inl (p, q) ↦ elim (or_cases (eqb v u) false (rw q at o)) [
          | inl h ↦ inr (sym (SomeInj (sym k.follows ∙ ap (successor m C x) (eqb-true v u h) ∙ s)) ∙ p)
          | inr h ↦ absurd (both_ways false refl h)
        ]
        | inr (rest, h, q) ↦ elim (or_cases (eqb v u) (among rest u) (rw q at o)) [
          | inl h' ↦ inl (rw q (or_right (eqb v z) (among rest z)
              (subst (λ y. among rest y ≡ true) (SomeInj (sym k.follows ∙ ap (successor m C x) (eqb-true v u h') ∙ s)) (walk_first w n k.next rest h))))
          | inr h' ↦ elim (walk_closed w n k.next rest h u z h' s) [
            | inl i ↦ inl (rw q (or_right (eqb v z) (among rest z) i))
            | inr i ↦ inr i
          ]
        ]
      ]

  -- so it holds all that follow w
  walk_all : (w n : ℕ) (us : List ℕ) → walk m C x w n w ≡ Some us → (k u : ℕ) → later m C x k w ≡ Some u → among us u ≡ true
  walk_all w n us e zero u l = subst (λ y. among us y ≡ true) (SomeInj l) (walk_first w n w us e)
  walk_all w n us e (suc k) u l =
      let (y, p, s) = later_inv m C x k w u l in
      elim (walk_closed w n w us e y u (walk_all w n us e k y p) s) [
        | inl h ↦ h
        | inr h ↦ subst (λ y. among us y ≡ true) (sym h) (walk_first w n w us e)
      ]

  -- what `rotation_at` finds is a rotation, of w
  pub rotation_found : (w : ℕ) (r : List Move) → rotation_at m C x w ≡ Some r → (rot : Rotates m C x r) × (rot.cycle.leader ≡ w)
  rotation_found w r e = at (walk m C x w 64 w) refl e
    where
      at : (o : Option (List ℕ)) → walk m C x w 64 w ≡ o → moves_of_walk m C x o ≡ Some r → (rot : Rotates m C x r) × (rot.cycle.leader ≡ w)
      at None h e = absurd (Some≢None (sym e))
      at (Some us) h e =
          let (p, a, b) = walk_again w 64 w us 0 h refl in (
            record {
              group = among us;
              cycle = record {
                leader = w;
                comes_again = record { period = p; some_steps = a; again = b };
                members = λ v. (λ o. walk_follows w 64 w us h (0, refl) v o, λ f. walk_all w 64 us h f.0 v f.1);
              };
              listed = sym (SomeInj e);
            },
            refl,
          )

  pub found_on : (w : ℕ) (r : List Move) → rotation_at m C x w ≡ Some r → OnRotation m C x w
  found_on w r e = let (rot, l) = rotation_found w r e in subst (OnRotation m C x) l rot.cycle.comes_again

  -- a walk that stops has not seen w again
  walk_stops : (w n v i : ℕ) → walk m C x w n v ≡ None → later m C x i w ≡ Some v → (j : ℕ) → i < j → j ≤ i + n → later m C x j w ≡ Some w → ⊥
  unfolding walk
  walk_stops w zero v i e l j a b h = absurd (omega arith)
  walk_stops w (suc n) v i e l j a b h =
      at (successor m C x v) refl (λ u s q ne. walk_stops w n u (suc i) q (later_suc m C x i w v (Some u) l s) j (lt_of ne) (omega arith) h) e
    where
      lt_of : (suc i ≡ j → ⊥) → suc i < j
      lt_of ne = omega arith

      ne_of : (u : ℕ) → successor m C x v ≡ Some u → eqb u w ≡ false → suc i ≡ j → ⊥
      ne_of u s q z = eqb-false u w q (SomeInj (sym (later_suc m C x i w v (Some u) l s) ∙ ap (λ k. later m C x k w) z ∙ h))

      turn : (u : ℕ) → successor m C x v ≡ Some u → (b : Bool) → eqb u w ≡ b → (walk m C x w n u ≡ None → (suc i ≡ j → ⊥) → ⊥) →
          walk_turn v u (λ y. walk m C x w n y) b ≡ None → ⊥
      turn u s true q ih e = Some≢None e
      turn u s false q ih e = joined (walk m C x w n u) refl e
        where
          joined : (o : Option (List ℕ)) → walk m C x w n u ≡ o → walk_from v o ≡ None → ⊥
          joined None p e = ih p (ne_of u s q)
          joined (Some us) p e = Some≢None e

      at : (o : Option ℕ) → successor m C x v ≡ o → ((u : ℕ) → successor m C x v ≡ Some u → walk m C x w n u ≡ None → (suc i ≡ j → ⊥) → ⊥) →
          walk_next w v (λ y. walk m C x w n y) o ≡ None → ⊥
      at None s ih e = Some≢None (sym h ∙ later_none m C x (suc i) w j a (later_suc m C x i w v None l s))
      at (Some u) s ih e = turn u s (eqb u w) refl (ih u s) e

  -- where nothing is found, w is on no rotation
  pub missing_off : (w : ℕ) → rotation_at m C x w ≡ None → OnRotation m C x w → ⊥
  missing_off w e on = let (n, a, b, h) = soon_again w on in at n a b h (walk m C x w 64 w) refl e
    where
      at : (n : ℕ) → 0 < n → n ≤ 64 → later m C x n w ≡ Some w → (o : Option (List ℕ)) → walk m C x w 64 w ≡ o → moves_of_walk m C x o ≡ None → ⊥
      at n a b h None q e = walk_stops w 64 w 0 q refl n a (omega arith) h
      at n a b h (Some us) q e = Some≢None e

  -- and where w is on none, nothing is found
  pub off_missing : (w : ℕ) → (OnRotation m C x w → ⊥) → rotation_at m C x w ≡ None
  off_missing w off = at (rotation_at m C x w) refl
    where
      at : (o : Option (List Move)) → rotation_at m C x w ≡ o → rotation_at m C x w ≡ None
      at None e = e
      at (Some r) e = absurd (off (found_on w r e))
