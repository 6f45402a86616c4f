-- The laws over every run: stable placements, commits to the next one, no rotation left at the best, and boards that agree where the same rotations stand.
use Rattle.std.proofs.Common.{◌≡◌, ℕ, ◌+◌, Bool, true, false, ◌⊎◌, ◌↔◌, List, length, Some, None, Option, sym, refl, ap, ◌∙◌, subst, arith}
use Rattle.fleet.specs.Market.{Market, Placement}
use Rattle.fleet.specs.declared.Event.{Event}
use Rattle.fleet.proofs.First.{Some≢None}
use Rattle.policy.specs.Choice.{Policy, Alike}
use Rattle.matching.specs.Entries.{place}
use Rattle.matching.specs.Stable.{Given, Stable, Between, TenantBest}
use Rattle.matching.specs.Settling.{stands, settled_placement, Outcome}
use Rattle.matching.proofs.Settles.{settled_stable}
use Rattle.matching.proofs.Alike.{settled_alike}
use Rattle.rotation.specs.Moves.{Rotates, applied, moved, rotation_at}
use Rattle.rotation.proofs.Best.{best_none, none_best}
use Rattle.rotation.proofs.Moved.{same_list}
use Rattle.rotation.proofs.Rotates.{rotates_fits}
use Rattle.rotation.proofs.RotationLaws.{rotation_laws}
use Rattle.rotation.proofs.Walks.{missing_off, off_missing}
use Rattle.runs.specs.States.{Rotation, Drain, State, Ticket}
use Rattle.runs.specs.States.Request.{to_open, to_commit}
use Rattle.runs.specs.States.Answer.{refused, accepted}
use Rattle.runs.specs.Calls.{short, matches, opening, open_on, committing, respond, settled_list, board}
use Rattle.runs.specs.Laws.{Stands, BoardLaws}
use Rattle.runs.proofs.Routes.{Route, ends, route_stable, route_alike, same_rotations, same_ends}
use Rattle.runs.proofs.Kept.{placed_after, Kept, board_kept}

pub refused≢accepted : {n : ℕ} {es : List Event} {t : Ticket} → refused n ≡ accepted es t → ⊥
refused≢accepted e = cc

refused_inj : {a b : ℕ} → refused a ≡ refused b → a ≡ b
refused_inj e = cc

module _ {m : Market} {C : Policy} (given : Given m C) (s : State) (kept : Kept m C s) where
  -- every placement on the way is stable
  kept_stable : Stable m C (place s.placement)
  kept_stable = rw kept.here (route_stable given s.standing (settled_placement m C) (settled_stable given) kept.route)

  -- nothing stable lies strictly between the placements before and after an accepted commit
  commit_next : (o : Option Drain) → s.drain ≡ o → (t : Ticket) (es : List Event) (new : Ticket) → (respond (settled_list m C) s o (to_commit t)).1 ≡ accepted es new →
      (y : Placement) → Stable m C y → Between m C (place s.placement) y (place (respond (settled_list m C) s o (to_commit t)).0.placement) →
      (y ≡ place s.placement) ⊎ (y ≡ place (respond (settled_list m C) s o (to_commit t)).0.placement)
  commit_next None e t es new ok y sy between = absurd (refused≢accepted ok)
  commit_next (Some d) e t es new ok y sy between = at (matches t d.number) ok between
    where
      r : Rotation
      r = d.rotation

      x : Placement
      x = place s.placement

      rot : Rotates m C x r
      rot = subst (λ (z : Placement). Rotates m C z r) (sym kept.here) (kept.draining d e)

      after : place (moved r s.placement) ≡ applied r x
      after = placed_after s.placement x r kept.sized refl (rotates_fits rot)

      at : (b : Bool) → (committing s r b).1 ≡ accepted es new → Between m C x y (place (committing s r b).0.placement) →
          (y ≡ x) ⊎ (y ≡ place (committing s r b).0.placement)
      at false ok between = absurd (refused≢accepted ok)
      at true ok between = rw after ((rotation_laws given kept_stable).next r rot y sy (rw after at between))

  opens_none : (w : ℕ) (o : Option Rotation) → (open_on s w o).1 ≡ refused 40 → o ≡ None
  opens_none w None e = refl
  opens_none w (Some r) e = absurd (at (short s.next (1 + length r)) e)
    where
      at : (b : Bool) → (opening s w r b).1 ≡ refused 40 → ⊥
      at true e = let z : ◌≡◌ {A = ℕ} 44 40 = refused_inj e in omega arith
      at false e = refused≢accepted (sym e)

  -- open is refused for every worker exactly where the placement is best for the tenants
  open_last : (o : Option Drain) → o ≡ None →
      (let x = place s.placement in
      ((w : ℕ) → (respond (settled_list m C) s o (to_open w (rotation_at m C x w))).1 ≡ refused 40) ↔ TenantBest m C x)
  open_last (Some d) e = absurd (Some≢None e)
  open_last None e =
      let x = place s.placement in (
        λ all. none_best given kept_stable (λ w. missing_off m C x w (opens_none w (rotation_at m C x w) (all w))),
        λ best w. ap (λ (o : Option Rotation). (open_on s w o).1) (off_missing m C x w (best_none given kept_stable best w)),
      )

-- boards of one sheet, under policies that choose alike
boards_agree : {m : Market} {C D : Policy} → Given m C → Given m D → Alike m C D → (s u : State) → Kept m C s → Kept m D u →
    (s.placement ≡ u.placement) ↔ ((r : Rotation) → Stands r s ↔ Stands r u)
boards_agree {m} {C} {D} gC gD alike s u ks ku = (
  λ e. let both = ends_agree e in
      λ r. (
        same_rotations gC s.standing u.standing x (settled_stable gC) ks.route route both r,
        same_rotations gC u.standing s.standing x (settled_stable gC) route ks.route (sym both) r,
      ),
  λ h. same_list s.placement u.placement (ks.sized ∙ sym ku.sized)
      (λ w. ap (λ (y : Placement). y w)
      (ks.here ∙ same_ends gC s.standing u.standing x (settled_stable gC) ks.route route h ∙ ap (λ (y : Placement). ends y u.standing) start ∙ sym ku.here)),
)
  where
    x : Placement
    x = settled_placement m C

    start : settled_placement m C ≡ settled_placement m D
    start = ap (λ (o : Outcome). stands m o.closed) (settled_alike gC.sound alike)

    -- the route of u, under C
    route : Route m C x u.standing
    route = subst (λ (y : Placement). Route m C y u.standing) (sym start)
        (route_alike gD (λ t h Z b. sym (alike t h Z b)) u.standing (settled_placement m D) (settled_stable gD) ku.route)

    ends_agree : s.placement ≡ u.placement → ends x s.standing ≡ ends x u.standing
    ends_agree e = sym ks.here ∙ ap place e ∙ ku.here ∙ ap (λ (y : Placement). ends y u.standing) (sym start)

pub board_laws : BoardLaws
board_laws = record {
  same_placements = λ m C D gC gD alike first first' cs ds.
      boards_agree gC gD alike (board m C first cs) (board m D first' ds) (board_kept m C gC.sound first cs) (board_kept m D gD.sound first' ds);
  stable = λ m C given first cs. kept_stable given (board m C first cs) (board_kept m C given.sound first cs);
  next_stable = λ m C given first cs. commit_next given (board m C first cs) (board_kept m C given.sound first cs) (board m C first cs).drain refl;
  no_rotation_left = λ m C given first cs. open_last given (board m C first cs) (board_kept m C given.sound first cs) (board m C first cs).drain;
}
