-- Routes, rotations one after another: two from one placement end alike exactly where they have the same rotations.
use Rattle.std.proofs.Common.{◌≡◌, ℕ, ◌<◌, ◌≤◌, ◌⊎◌, ◌↔◌, List, [], ◌∷◌, ◌++◌, Some, None, Option, sym, refl, ap, ◌∙◌, subst, inl, inr, arith}
use mathlib.Core.Path.{fun_ext}
use Rattle.fleet.specs.Market.{Market, Placement, rank, depth}
use Rattle.policy.specs.Choice.{Policy, Alike}
use Rattle.matching.specs.Stable.{Given, Stable}
use Rattle.rotation.specs.Rotation.{or_own}
use Rattle.matching.proofs.Facts.{placed_same}
use Rattle.rotation.proofs.Alike.{step_alike, cycle_alike}
use Rattle.runs.specs.States.{Rotation}
use Rattle.rotation.specs.Laws.{Member}
use Rattle.rotation.specs.Moves.{Rotates, dest, applied}
use Rattle.rotation.proofs.Rotates.{apart_sym, shared, applied_swap, moves_same, rotates_some, rotates_down, rotates_falls, rotates_same, rotates_stable, rotates_stays}

-- the end of a route from x
abbrev pub ends : Placement → List Rotation → Placement
ends x [] = x
ends x (r ∷ rs) = ends (applied r x) rs

-- each is a rotation at the placement that those before it lead to
abbrev pub Route : Market → Policy → Placement → List Rotation → Type 0
Route m C x [] = Unit {0}
Route m C x (r ∷ rs) = Rotates m C x r × Route m C (applied r x) rs

-- nobody is better off at the end of a route
route_falls : (m : Market) (C : Policy) (rs : List Rotation) (x : Placement) (w : ℕ) → Route m C x rs → depth m x w ≤ depth m (ends x rs) w
route_falls m C [] x w ro = omega arith
route_falls m C (r ∷ rs) x w ro = omega (arith, rotates_falls ro.0 w, route_falls m C rs (applied r x) w ro.1)

module _ {m : Market} {C : Policy} (given : Given m C) where
  -- a route ends in a stable placement
  pub route_stable : (rs : List Rotation) (x : Placement) → Stable m C x → Route m C x rs → Stable m C (ends x rs)
  route_stable [] x st ro = st
  route_stable (r ∷ rs) x st ro = route_stable rs (applied r x) (rotates_stable given st ro.0) ro.1

  -- the route ss without the rotation r, from where r leads
  record Pulled (x : Placement) (r : Rotation) (ss : List Rotation) : Type 0 where
    left : List Rotation
    route : Route m C (applied r x) left
    same_end : ends (applied r x) left ≡ ends x ss
    within : Member r ss
    rest : (q : Rotation) → Member q left → Member q ss

  -- a rotation at x that moves a worker that the route moves is one of the route's, and can be made first
  pull : (ss : List Rotation) (x : Placement) (r : Rotation) (w t : ℕ) → Stable m C x → Rotates m C x r → Route m C x ss → dest r w ≡ Some t →
      depth m x w < depth m (ends x ss) w → Pulled x r ss
  pull [] x r w t st rot ro d h = absurd (omega arith)
  pull (s ∷ ss) x r w t st rot ro d h = elim (shared r s) [
    | inl (v, a, b, p, q) ↦
        (let e : r ≡ s = rotates_same rot ro.0 v a b p q in
        record { left = ss; route = subst (λ q. Route m C (applied q x) ss) (sym e) ro.1; same_end = ap (λ q. ends (applied q x) ss) e; within = inl e; rest = λ q k. inr k })
    | inr apart ↦
        (let here : applied s x w ≡ x w = ap (or_own (x w)) (apart w t d) in
        let further : depth m (applied s x) w < depth m (ends (applied s x) ss) w = rw here h in
        let p : Pulled (applied s x) r ss = pull ss (applied s x) r w t (rotates_stable given st ro.0) (rotates_stays given st ro.0 rot (apart_sym r s apart)) ro.1 d further in
        let swap : applied r (applied s x) ≡ applied s (applied r x) = sym (applied_swap r s x apart) in
        record {
          left = s ∷ p.left;
          route = (rotates_stays given st rot ro.0 apart, subst (λ y. Route m C y p.left) swap p.route);
          same_end = ap (λ y. ends y p.left) (sym swap) ∙ p.same_end;
          within = inr p.within;
          rest = λ q. elim [ inl e ↦ inl e | inr k ↦ inr (p.rest q k) ];
        })
  ]

  -- two routes to one end have the same rotations
  pub same_rotations : (rs ss : List Rotation) (x : Placement) → Stable m C x → Route m C x rs → Route m C x ss → ends x rs ≡ ends x ss →
      (q : Rotation) → Member q rs → Member q ss
  same_rotations [] ss x st ro ro' e q k = elim k [ ]
  same_rotations (r ∷ rs) ss x st ro ro' e q k =
      let (w, t, d) = rotates_some ro.0 in
      let there : applied r x w ≡ t = ap (or_own (x w)) d in
      let falls = route_falls m C rs (applied r x) w ro.1 in
      let near : depth m x w < depth m (ends x (r ∷ rs)) w = omega (arith, rotates_down ro.0 w t d, falls, ap (rank (m.list w)) there) in
      let far : depth m x w < depth m (ends x ss) w = rw e at near in
      let p : Pulled x r ss = pull ss x r w t st ro.0 ro' d far in
      elim k [
        | inl q≡r ↦ subst (λ s. Member s ss) (sym q≡r) p.within
        | inr k' ↦ p.rest q (same_rotations rs p.left (applied r x) (rotates_stable given st ro.0) ro.1 p.route (e ∙ sym p.same_end) q k')
      ]

-- where a worker is at the end, a rotation took it there, or it never moved
reached : (rs : List Rotation) (x : Placement) (w : ℕ) → (ends x rs w ≡ x w) ⊎ ((q : Rotation) × Member q rs × (dest q w ≡ Some (ends x rs w)))
reached [] x w = inl refl
reached (r ∷ rs) x w = at (reached rs (applied r x) w) (dest r w) refl
  where
    at : (ends (applied r x) rs w ≡ applied r x w) ⊎ ((q : Rotation) × Member q rs × (dest q w ≡ Some (ends (applied r x) rs w))) → (o : Option ℕ) → dest r w ≡ o →
        (ends (applied r x) rs w ≡ x w) ⊎ ((q : Rotation) × Member q (r ∷ rs) × (dest q w ≡ Some (ends (applied r x) rs w)))
    at (inr (q, k, d)) o e = inr (q, inr k, d)
    at (inl h) None e = inl (h ∙ ap (or_own (x w)) e)
    at (inl h) (Some t) e = inr (r, inl refl, e ∙ ap Some (sym (h ∙ ap (or_own (x w)) e)))

-- no worker ends above the place where a rotation of the route took it
at_least : (m : Market) (C : Policy) (rs : List Rotation) (x : Placement) (q : Rotation) (w t : ℕ) → Route m C x rs → Member q rs → dest q w ≡ Some t →
    rank (m.list w) t ≤ depth m (ends x rs) w
at_least m C [] x q w t ro k d = elim k [ ]
at_least m C (r ∷ rs) x q w t ro (inl e) d =
    let there : applied r x w ≡ t = ap (or_own (x w)) (sym (ap (λ s. dest s w) e) ∙ d) in
    rw (← there) (route_falls m C rs (applied r x) w ro.1)
at_least m C (r ∷ rs) x q w t ro (inr k) d = at_least m C rs (applied r x) q w t ro.1 k d

fewer_moves : (m : Market) (C : Policy) (rs ss : List Rotation) (x : Placement) → Route m C x ss → ((q : Rotation) → Member q rs → Member q ss) →
    (w : ℕ) → depth m (ends x rs) w ≤ depth m (ends x ss) w
fewer_moves m C rs ss x ro sub w = elim (reached rs x w) [
  | inl e ↦ rw e (route_falls m C ss x w ro)
  | inr (q, k, d) ↦ at_least m C ss x q w (ends x rs w) ro (sub q k) d
]

-- the same rotations lead to the same end
pub same_ends : {m : Market} {C : Policy} → Given m C → (rs ss : List Rotation) (x : Placement) → Stable m C x → Route m C x rs → Route m C x ss →
    ((q : Rotation) → Member q rs ↔ Member q ss) → ends x rs ≡ ends x ss
same_ends {m} {C} given rs ss x st ro ro' both =
    fun_ext λ w. placed_same (route_stable given rs x st ro) (route_stable given ss x st ro') w
    (omega (arith, fewer_moves m C rs ss x ro' (λ q. (both q).0) w, fewer_moves m C ss rs x ro (λ q. (both q).1) w))

-- one rotation more at the end of a route
pub ends_snoc : (rs : List Rotation) (r : Rotation) (x : Placement) → ends x (rs ++ (r ∷ [])) ≡ applied r (ends x rs)
ends_snoc [] r x = refl
ends_snoc (q ∷ rs) r x = ends_snoc rs r (applied q x)

pub route_snoc : (m : Market) (C : Policy) (rs : List Rotation) (r : Rotation) (x : Placement) → Route m C x rs → Rotates m C (ends x rs) r → Route m C x (rs ++ (r ∷ []))
route_snoc m C [] r x ro rot = (rot, tt)
route_snoc m C (q ∷ rs) r x ro rot = (ro.0, route_snoc m C rs r (applied q x) ro.1 rot)

pub route_unsnoc : (m : Market) (C : Policy) (rs : List Rotation) (r : Rotation) (x : Placement) → Route m C x (rs ++ (r ∷ [])) → Route m C x rs × Rotates m C (ends x rs) r
route_unsnoc m C [] r x ro = (tt, ro.0)
route_unsnoc m C (q ∷ rs) r x ro = let p = route_unsnoc m C rs r (applied q x) ro.1 in ((ro.0, p.0), p.1)

-- a route is one under a policy that chooses alike
pub route_alike : {m : Market} {C D : Policy} → Given m C → Alike m C D → (rs : List Rotation) (x : Placement) → Stable m C x → Route m C x rs → Route m D x rs
route_alike given alike [] x st ro = tt
route_alike {m} {C} {D} given alike (r ∷ rs) x st ro = (one, route_alike given alike rs (applied r x) (rotates_stable given st ro.0) ro.1)
  where
    one : Rotates m D x r
    one = record {
      group = ro.0.group;
      cycle = cycle_alike given.sound alike x st.listed ro.0.cycle;
      listed = ro.0.listed ∙ sym (moves_same m C D x x ro.0.group (λ w h. (refl, sym (step_alike given.sound alike x st.listed w))));
    }
