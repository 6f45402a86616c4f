-- What every call keeps: the standing rotations are a route from the settled placement to the present one, and a drain holds a rotation there.
use Rattle.std.proofs.Common.{◌≡◌, ℕ, true, false, List, [], ◌∷◌, ◌++◌, length, Some, sym, refl, ap, ◌∙◌, subst}
use mathlib.Core.Path.{fun_ext}
use Rattle.fleet.specs.Market.{Market, Sound, Placement}
use Rattle.fleet.specs.declared.Event.{Event}
use Rattle.fleet.proofs.First.{SomeInj, Some≢None}
use Rattle.policy.specs.Choice.{Policy}
use Rattle.matching.specs.Entries.{place}
use Rattle.matching.specs.Settling.{settled_placement}
use Rattle.matching.proofs.Settles.{settled_place}
use Rattle.matching.proofs.Tabulate.{length_tabulate}
use Rattle.rotation.specs.Moves.{Rotates, applied, moved, reversed, rotation_at}
use Rattle.rotation.proofs.Moved.{Fits, length_moved, place_moved, applied_reversed, fits_reversed}
use Rattle.rotation.proofs.Rotates.{rotates_leaves, rotates_fits}
use Rattle.rotation.proofs.Walks.{rotation_found}
use Rattle.runs.specs.States.{Rotation, Drain, State, Call}
use Rattle.runs.specs.Calls.{last_of, but_last, drained, committing, withdrawing, backing, call, made, run, board}
use Rattle.runs.proofs.Routes.{Route, ends, ends_snoc, route_snoc, route_unsnoc}
use Rattle.runs.proofs.Cases.{call_cases}

-- a list is all but its last, and its last
pub last_view : (rs : List Rotation) (r : Rotation) → last_of rs ≡ Some r → rs ≡ but_last rs ++ (r ∷ [])
last_view [] r e = absurd (Some≢None (sym e))
last_view (a ∷ []) r e = let z : a ≡ r = SomeInj e in cc
last_view (a ∷ b ∷ rs) r e = ap (λ (l : List Rotation). a ∷ l) (last_view (b ∷ rs) r e)

-- one call more
pub run_push : (m : Market) (C : Policy) (cs : List Call) (s : State) (c : Call) → run m C s (cs ++ (c ∷ [])) ≡ (call m C (run m C s cs) c).0
run_push m C [] s c = refl
run_push m C (d ∷ cs) s c = run_push m C cs (call m C s d).0 c

-- the board's list after the moves
pub placed_after : (l : List ℕ) (x : Placement) (r : Rotation) → length l ≡ 64 → place l ≡ x → Fits 64 r → place (moved r l) ≡ applied r x
placed_after l x r size e fits = fun_ext λ w. place_moved r l w (rw size fits) ∙ ap (λ (y : Placement). applied r y w) e

-- what is kept
pub record Kept (m : Market) (C : Policy) (s : State) : Type 0 where
  pub sized : length s.placement ≡ 64
  pub route : Route m C (settled_placement m C) s.standing
  pub here : place s.placement ≡ ends (settled_placement m C) s.standing
  pub draining : (d : Drain) → s.drain ≡ Some d → Rotates m C (ends (settled_placement m C) s.standing) d.rotation

module _ (m : Market) (C : Policy) (sound : Sound m) where
  abbrev start : Placement
  start = settled_placement m C

  pub kept_made : (next : ℕ) → Kept m C (made m C next)
  kept_made next = record {
    sized = length_tabulate 64 start;
    route = tt;
    here = settled_place m C sound;
    draining = λ d e. absurd (Some≢None (sym e));
  }

  module _ (s : State) (kept : Kept m C s) where
    kept_open : (w : ℕ) (r : Rotation) → rotation_at m C (place s.placement) w ≡ Some r → Kept m C (drained s r)
    kept_open w r e =
        let rot : Rotates m C (ends start s.standing) r = subst (λ (x : Placement). Rotates m C x r) kept.here (rotation_found m C (place s.placement) w r e).0 in
        record {
          sized = kept.sized;
          route = kept.route;
          here = kept.here;
          draining = λ d q. subst (λ (f : Drain). Rotates m C (ends start s.standing) f.rotation) (SomeInj q) rot;
        }

    kept_commit : (d : Drain) → s.drain ≡ Some d → Kept m C (committing s d.rotation true).0
    kept_commit d e =
        let r = d.rotation in
        let x = ends start s.standing in
        let rot : Rotates m C x r = kept.draining d e in
        record {
          sized = length_moved r s.placement ∙ kept.sized;
          route = route_snoc m C s.standing r start kept.route rot;
          here = placed_after s.placement x r kept.sized kept.here (rotates_fits rot) ∙ sym (ends_snoc s.standing r start);
          draining = λ d e. absurd (Some≢None (sym e));
        }

    kept_withdraw : Kept m C (withdrawing s true).0
    kept_withdraw = record { sized = kept.sized; route = kept.route; here = kept.here; draining = λ d e. absurd (Some≢None (sym e)) }

    kept_back : (r : Rotation) → last_of s.standing ≡ Some r → Kept m C (backing s r false).0
    kept_back r e =
        let rs = but_last s.standing in
        let before = ends start rs in
        let view : s.standing ≡ rs ++ (r ∷ []) = last_view s.standing r e in
        let parts : Route m C start rs × Rotates m C before r = route_unsnoc m C rs r start (subst (λ (q : List Rotation). Route m C start q) view kept.route) in
        let now : place s.placement ≡ applied r before = kept.here ∙ ap (λ (q : List Rotation). ends start q) view ∙ ends_snoc rs r start in
        record {
          sized = length_moved (reversed r) s.placement ∙ kept.sized;
          route = parts.0;
          here =
              placed_after s.placement (applied r before) (reversed r) kept.sized now (fits_reversed 64 r (rotates_fits parts.1)) ∙
              (fun_ext λ w. applied_reversed before r (rotates_leaves parts.1) w);
          draining = λ d q. absurd (Some≢None (sym q));
        }

    pub kept_call : (c : Call) → Kept m C (call m C s c).0
    kept_call = call_cases m C s (λ (u : State) (es : List Event). Kept m C u) kept (λ w r e _. kept_open w r e) kept_commit kept_withdraw (λ r e _. kept_back r e) (λ _. kept_made _)

  kept_run : (cs : List Call) (s : State) → Kept m C s → Kept m C (run m C s cs)
  kept_run [] s kept = kept
  kept_run (c ∷ cs) s kept = kept_run cs (call m C s c).0 (kept_call s kept c)

  -- every board that is made and run keeps it
  pub board_kept : (first : ℕ) (cs : List Call) → Kept m C (board m C first cs)
  board_kept first cs = kept_run cs (made m C first) (kept_made first)
