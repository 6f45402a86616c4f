-- The events of moves, one more at a time, on a slip.
use Rattle.std.proofs.Common.{◌≡◌, ℕ, suc, ◌+◌, ◌<◌, ◌≤◌, List, [], ◌∷◌, ◌++◌, length, get_or, take, drop, set, sym, refl, ap, ◌∙◌, ap₂, append_assoc, add-one, arith, length-take, drop-cons}
use Rattle.std.proofs.lemmas.List.{set_at, take_more}
use Rattle.fleet.specs.declared.Move.{Move}
use Rattle.fleet.specs.declared.Event.{Event}
use Rattle.rotation.specs.declared.move_list.MoveList.{MoveList}
use Rattle.rotation.specs.Listing.{listing}
use Rattle.runs.specs.Calls.{event, events}
use Rattle.runs.proofs.Bounds.{length_events}

events_push : (n kind : ℕ) (r : List Move) (k : Move) (i : ℕ) → length r ≡ i → events n kind (r ++ (k ∷ [])) ≡ events n kind r ++ (event (n + i) kind k ∷ [])
events_push n kind [] k i e = let q : n ≡ n + i = omega arith in ap (λ (j : ℕ). event j kind k ∷ []) q
events_push n kind (h ∷ hs) k i e =
    let q : suc n + length hs ≡ n + i = omega arith in
    ap (λ (es : List Event). event n kind h ∷ es) (events_push (suc n) kind hs k (length hs) refl ∙ ap (λ (j : ℕ). events (suc n) kind hs ++ (event j kind k ∷ [])) q)

-- one event more on the slip
pub slip_more : (slip : List Event) (n kind i : ℕ) (r : List Move) (d : Move) → i < length slip → i < length r →
    set (events n kind (take i r) ++ drop i slip) i (event (n + i) kind (get_or r i d)) ≡ events n kind (take (i + 1) r) ++ drop (i + 1) slip
slip_more slip n kind i r d h l =
    let none : Event = record { number = 0; kind = 0; worker = 0; from = 0; to = 0 } in
    let before : List Event = events n kind (take i r) in
    let e : Event = event (n + i) kind (get_or r i d) in
    let t : length (take i r) ≡ i = length-take i r ∙ omega arith in
    ap (λ (rest : List Event). set (before ++ rest) i e) (drop-cons slip i none h) ∙
    set_at before (get_or slip i none) (drop (suc i) slip) e i (length_events n kind (take i r) ∙ t) ∙
    sym (append_assoc before (e ∷ []) (drop (suc i) slip)) ∙
    ap₂ (λ (x y : List Event). x ++ y)
    (sym (events_push n kind (take i r) (get_or r i d) i t) ∙ ap (events n kind) (sym (take_more r i d l)))
    (ap (λ (j : ℕ). drop j slip) (sym (add-one i)))

-- a list of moves fits a slip
pub listing_few : (r : MoveList) → length (listing r) ≤ 64
listing_few r = omega (arith, length-take r.len r.moves, r.short)
