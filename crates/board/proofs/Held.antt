-- What a table holds: its standing rotations lead from the settled placement to the current one.
use Rattle.std.proofs.Common.{◌≡◌, ℕ, ◌+◌, ◌-◌, ◌<◌, ◌≤◌, true, List, [], ◌∷◌, ◌++◌, length, get_or, take, Some, None, Option, sum_by, sum, sym, refl, ap, ◌∙◌, subst, ap₂, append-nil, arith, length-take}
use Rattle.std.specs.List.{slice_get}
use Rattle.std.proofs.lemmas.Option.{slice_get_past}
use Rattle.std.proofs.lemmas.List.{length_push, take_more, take-take, get_or-take}
use Rattle.std.proofs.lemmas.List.Sums.{sum_by_push, sum_by_more, sum_by-take-le}
use Rattle.fleet.specs.Lists.{market}
use Rattle.fleet.specs.Market.{Market}
use Rattle.fleet.specs.declared.Move.{Move}
use Rattle.matching.specs.Entries.{place}
use Rattle.rotation.specs.Moves.{moved, reversed}
use Rattle.rotation.proofs.Moved.{same_list, moved_reversed}
use Rattle.runs.specs.States.{Rotation}
use Rattle.runs.specs.Calls.{last_of, but_last}
use Rattle.runs.specs.Onward.{weight}
use Rattle.runs.specs.Descent.{descends, leads, led_to}
use Rattle.runs.proofs.Descent.{descends_few, descends_fits, descends_leaves, length_led_to, led_to_none, led_to_push, none_leads, leads_push, leads_pop, leads_slip, few_rotations, few_moves}
use Rattle.board.specs.declared.drain.Drained.{Drained}
use Rattle.board.specs.declared.table.Table.{Table}
use Rattle.board.specs.Pieces.{piece, cut, opened}
use Rattle.board.specs.Shown.{standing_in, last_size, last_piece, state}
use Rattle.board.proofs.Pieces.{cut_none, length_piece, length_cut, cut_push, cut_at, cut_moves}

-- rotations that lead on with a drain behind them lead on without it
without_drain : (m : Market) (l : List ℕ) (rs : List Rotation) (d : Option Drained) (at : ℕ) (ms : List Move) → leads m l (rs ++ opened d at ms) ≡ true → leads m l rs ≡ true
without_drain m l rs None at ms e = ap (leads m l) (sym (append-nil rs)) ∙ e
without_drain m l rs (Some d) at ms e = (leads_pop m l rs _ e).0

-- no rotations lead nowhere
pub none_lead : (m : Market) (l : List ℕ) (ms : List Move) → leads m l (cut [] ms ++ []) ≡ true
none_lead m l ms = ap (λ (rs : List Rotation). leads m l (rs ++ [])) (cut_none ms) ∙ none_leads m l

pub none_led : (l : List ℕ) (ms : List Move) (w : ℕ) → place (led_to l (cut [] ms)) w ≡ place l w
none_led l ms w = ap (λ (rs : List Rotation). place (led_to l rs) w) (cut_none ms) ∙ ap (λ (k : List ℕ). place k w) (led_to_none l)

module _ (t : Table) where
  pub places_are : led_to t.settled.places (standing_in t) ≡ t.current.places
  places_are =
      same_list (led_to t.settled.places (standing_in t)) t.current.places
      (length_led_to t.settled.places (standing_in t) ∙ t.settled.full ∙ sym t.current.full) t.reached

  pub standing_leads : leads (market t.lists) t.settled.places (standing_in t) ≡ true
  standing_leads = without_drain (market t.lists) t.settled.places (standing_in t) t.drain t.len t.moves t.leading

  pub leads_alone : leads (market t.lists) t.settled.places (standing_in t ++ []) ≡ true
  leads_alone = ap (leads (market t.lists) t.settled.places) (append-nil (standing_in t)) ∙ standing_leads

  -- as many rotations stand as there are sizes, with as many moves as lie there
  pub standing_long : length (standing_in t) ≡ t.count
  standing_long = omega (arith, length_cut (take t.count t.sizes) t.moves, length-take t.count t.sizes, t.few, t.slots)

  pub standing_moves : sum_by length (standing_in t) ≡ t.len
  standing_moves = cut_moves (take t.count t.sizes) t.moves (omega (arith, t.stacked, t.fits, t.rooms)) ∙ t.stacked

  -- so there are at most 480 rotations and 960 moves
  pub light : weight (state t) ≤ 1440
  light = omega (arith, standing_long, standing_moves, t.few, t.fits)

  -- one rotation more at the current placement
  module _ (r : Rotation) (down : descends (market t.lists) (place t.current.places) 0 r ≡ true) (some : 1 < length r) where
    pub one_more : leads (market t.lists) t.settled.places (standing_in t ++ (r ∷ [])) ≡ true
    one_more =
        leads_push (market t.lists) t.settled.places (standing_in t) r standing_leads
        (ap (λ (l : List ℕ). descends (market t.lists) (place l) 0 r) places_are ∙ down) some

  -- there is room for one that leads on
  module _ (r : Rotation) (led : leads (market t.lists) t.settled.places (standing_in t ++ (r ∷ [])) ≡ true) where
    pub move_room : t.len + length r ≤ 960
    move_room =
        let a = few_moves (market t.lists) t.settled.places t.settled.full (standing_in t ++ (r ∷ [])) led in
        let b = sum_by_push length (standing_in t) r in
        omega (arith, standing_moves)

    pub count_room : t.count < 480
    count_room =
        omega (arith, few_rotations (market t.lists) t.settled.places t.settled.full (standing_in t ++ (r ∷ [])) led, length_push (standing_in t) r, standing_long)

last_push : (rs : List Rotation) (r : Rotation) → last_of (rs ++ (r ∷ [])) ≡ Some r
last_push [] r = refl
last_push (q ∷ []) r = refl
last_push (q ∷ p ∷ rs) r = last_push (p ∷ rs) r

but_last_push : (rs : List Rotation) (r : Rotation) → but_last (rs ++ (r ∷ [])) ≡ rs
but_last_push [] r = refl
but_last_push (q ∷ []) r = refl
but_last_push (q ∷ p ∷ rs) r = ap (λ (l : List Rotation). q ∷ l) (but_last_push (p ∷ rs) r)

-- the last rotation of a table where one stands
module _ (t : Table) (some : 0 < t.count) where
  abbrev others : List Rotation
  others = cut (take (t.count - 1) t.sizes) t.moves

  sizes_split : take t.count t.sizes ≡ take (t.count - 1) t.sizes ++ (last_size t ∷ [])
  sizes_split =
      let e : t.count - 1 + 1 ≡ t.count = omega arith in
      ap (λ (n : ℕ). take n t.sizes) (sym e) ∙ take_more t.sizes (t.count - 1) 0 (omega (arith, t.few, t.slots))

  sum_split : sum (take (t.count - 1) t.sizes) + last_size t ≡ t.len
  sum_split = sym (sum_by_push (λ (x : ℕ). x) (take (t.count - 1) t.sizes) (last_size t)) ∙ ap sum (sym sizes_split) ∙ t.stacked

  pub others_stacked : sum (take (t.count - 1) t.sizes) ≡ t.len - last_size t
  others_stacked = omega (arith, sum_split)

  pub last_inside : last_size t ≤ t.len
  last_inside = omega (arith, sum_split)

  split : standing_in t ≡ others ++ (last_piece t ∷ [])
  split =
      ap (λ (ns : List ℕ). cut ns t.moves) sizes_split ∙ cut_push (take (t.count - 1) t.sizes) (last_size t) t.moves ∙
      ap (λ (at : ℕ). others ++ (piece at (last_size t) t.moves ∷ [])) others_stacked

  pub last_is : last_of (standing_in t) ≡ Some (last_piece t)
  last_is = ap last_of split ∙ last_push others (last_piece t)

  pub others_are : others ≡ but_last (standing_in t)
  others_are = sym (ap but_last split ∙ but_last_push others (last_piece t))

  pub last_long : length (last_piece t) ≡ last_size t
  last_long = length_piece t.moves (t.len - last_size t) (last_size t) (omega (arith, last_inside, t.fits, t.rooms))

  led : (leads (market t.lists) t.settled.places others ≡ true) ×
      (descends (market t.lists) (place (led_to t.settled.places others)) 0 (last_piece t) ≡ true) × (1 < length (last_piece t))
  led = leads_pop (market t.lists) t.settled.places others (last_piece t)
      (subst (λ (rs : List Rotation). leads (market t.lists) t.settled.places rs ≡ true) split (standing_leads t))

  pub others_lead : leads (market t.lists) t.settled.places (others ++ []) ≡ true
  others_lead = ap (leads (market t.lists) t.settled.places) (append-nil others) ∙ led.0

  pub last_few : last_size t ≤ 64
  last_few = omega (arith, descends_few (market t.lists) (place (led_to t.settled.places others)) 0 (last_piece t) led.1 (omega arith), last_long)

  -- the moves back lead from the current placement to where the others do
  pub back_there : moved (reversed (last_piece t)) t.current.places ≡ led_to t.settled.places others
  back_there =
      let l = led_to t.settled.places others in
      let m = market t.lists in
      let size : length l ≡ 64 = length_led_to t.settled.places others ∙ t.settled.full in
      ap (moved (reversed (last_piece t)))
      (sym (places_are t) ∙ ap (led_to t.settled.places) split ∙ led_to_push t.settled.places others (last_piece t)) ∙
      moved_reversed (last_piece t) l (rw size (descends_fits m (place l) 0 (last_piece t) led.1)) (descends_leaves m (place l) 0 (last_piece t) led.1)

pub last_none : (t : Table) → t.count ≡ 0 → last_of (standing_in t) ≡ None
last_none t e = ap (λ (n : ℕ). last_of (cut (take n t.sizes) t.moves)) e ∙ ap last_of (cut_none t.moves)

-- the others lead to where the last one is taken back
pub others_reach : (t : Table) (l : List ℕ) (w : ℕ) → 0 < t.count → l ≡ moved (reversed (last_piece t)) t.current.places →
    place (led_to t.settled.places (cut (take (t.count - 1) t.sizes) t.moves)) w ≡ place l w
others_reach t l w some e = ap (λ (k : List ℕ). place k w) (sym (e ∙ back_there t some))

pub standing_none : (t : Table) (i : ℕ) → t.count ≤ i → slice_get (standing_in t) i ≡ None
standing_none t i h = slice_get_past (standing_in t) i (omega (arith, standing_long t))

-- a standing rotation
module _ (t : Table) (i : ℕ) (h : i < t.count) where
  in_sizes : i < length (take t.count t.sizes)
  in_sizes = omega (arith, length-take t.count t.sizes, t.few, t.slots)

  pub standing_piece : slice_get (standing_in t) i ≡ Some (piece (sum (take i t.sizes)) (get_or t.sizes i 0) t.moves)
  standing_piece =
      cut_at (take t.count t.sizes) t.moves i in_sizes ∙
      ap₂ (λ (ns : List ℕ) (n : ℕ). Some (piece (sum ns) n t.moves)) (take-take i t.count t.sizes (omega arith)) (get_or-take t.count t.sizes i 0 h)

  pub size_room : sum (take i t.sizes) + get_or t.sizes i 0 ≤ 960
  size_room =
      let a : sum (take (i + 1) t.sizes) ≡ sum (take i t.sizes) + get_or t.sizes i 0 = sum_by_more (λ (x : ℕ). x) t.sizes i 0 (omega (arith, t.few, t.slots)) in
      let b : sum (take (i + 1) (take t.count t.sizes)) ≤ sum (take t.count t.sizes) = sum_by-take-le (λ (x : ℕ). x) (take t.count t.sizes) (i + 1) in
      let c : sum (take (i + 1) (take t.count t.sizes)) ≡ sum (take (i + 1) t.sizes) = ap sum (take-take (i + 1) t.count t.sizes (omega arith)) in
      omega (arith, t.stacked, t.fits)

  pub standing_few : get_or t.sizes i 0 ≤ 64
  standing_few =
      let long = length_piece t.moves (sum (take i t.sizes)) (get_or t.sizes i 0) (omega (arith, size_room, t.rooms)) in
      omega (arith, leads_slip (market t.lists) t.settled.places (standing_in t) (standing_leads t) i (piece (sum (take i t.sizes)) (get_or t.sizes i 0) t.moves) standing_piece)
