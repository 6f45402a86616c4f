-- A new board that moves on: its events, its next number, and that it ends at the placement that is best for all tenants.
use Rattle.std.proofs.Common.{◌≡◌, ℕ, List, length, take, drop, refl, ap, ◌∙◌, subst, ap₂, arith}
use Rattle.std.proofs.lemmas.List.{take_at}
use Rattle.fleet.specs.Market.{Market, Sound}
use Rattle.fleet.specs.declared.Event.{Event}
use Rattle.policy.specs.Choice.{Policy}
use Rattle.matching.specs.Entries.{place}
use Rattle.matching.specs.Stable.{Stable, TenantBest}
use Rattle.runs.specs.States.{State}
use Rattle.runs.specs.Calls.{settled_list, made}
use Rattle.runs.specs.Onward.{MovedOn}
use Rattle.runs.specs.Laws.{NeverStopped}
use Rattle.board.proofs.Advancing.{moved_same}
use Rattle.plans.specs.Plans.{day_of}

-- what is told of the day of a market and a policy
pub record Day (m : Market) (C : Policy) (events : List Event) (next : ℕ) : Type 0 where
  pub events_are : events ≡ (day_of m C).events
  pub next_is : next ≡ (day_of m C).reached.next
  pub best : TenantBest m C (place (day_of m C).reached.placement)

pub day_is : (m n : Market) (C D : Policy) (l : List ℕ) → n ≡ m → D ≡ C → l ≡ settled_list m C → Sound m → NeverStopped →
    (o s : State) → o ≡ made m C 1 → Stable m C (place o.placement) →
    (before log : List Event) (k stopped : ℕ) → MovedOn n D l o before k stopped s log → Day m C (take k log) s.next
day_is m n C D l mn cd home sound never o s start stable before log k stopped moved =
    let there : MovedOn m C (settled_list m C) o before k stopped s log = moved_same n m D C l (settled_list m C) mn cd home o before log k k stopped stopped s s refl refl refl moved in
    let day : MovedOn m C (settled_list m C) (made m C 1) before k stopped s log = subst (λ (u : State). MovedOn m C (settled_list m C) u before k stopped s log) start there in
    let es = (day_of m C).events in
    record {
      events_are = ap₂ take day.count day.written ∙ take_at es (drop (length es) before) (length es) refl;
      next_is = ap (λ (u : State). u.next) day.reached;
      best = subst (λ (u : State). TenantBest m C (place u.placement)) day.reached
          (day.best (day.refusal ∙ never m C sound 1 (omega arith)) (subst (λ (u : State). Stable m C (place u.placement)) start stable));
    }
