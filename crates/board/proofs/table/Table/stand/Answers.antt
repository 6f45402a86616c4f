-- The drained rotation is cut off behind the standing ones.
use Rattle.std.proofs.Common.{◌≡◌, ℕ, ◌+◌, ◌<◌, true, List, [], ◌∷◌, ◌++◌, length, take, set, Some, None, Option, sum, refl, sym, ap, ◌∙◌, subst, append-nil, arith, length-set}
use Rattle.std.proofs.lemmas.List.{take_more_set}
use Rattle.std.proofs.lemmas.List.Sums.{sum_by_push}
use Rattle.fleet.specs.Lists.{market}
use Rattle.matching.specs.Entries.{place}
use Rattle.rotation.specs.Moves.{moved}
use Rattle.runs.specs.States.{Rotation}
use Rattle.runs.specs.Descent.{leads, led_to}
use Rattle.runs.proofs.Descent.{led_to_push}
use Rattle.board.specs.declared.drain.Drained.{Drained}
use Rattle.board.specs.declared.table.Table.{Table}
use Rattle.board.specs.Pieces.{piece, cut, size_of, opened}
use Rattle.board.specs.Shown.{standing_in}
use Rattle.board.proofs.Held.{places_are, count_room}
use Rattle.board.proofs.Pieces.{length_piece, cut_push}
use Rattle.board.proofs.table.Table.stand.Goals as goal

-- a table t where d is drained
module _ (t : Table) (d : Drained) (e : t.drain ≡ Some d) where
  abbrev r : Rotation
  r = piece t.len d.size t.moves

  led : leads (market t.lists) t.settled.places (standing_in t ++ (r ∷ [])) ≡ true
  led = subst (λ (o : Option Drained). leads (market t.lists) t.settled.places (standing_in t ++ opened o t.len t.moves) ≡ true) e t.leading

  room : t.count < 480
  room = count_room t r led

  long : length r ≡ d.size
  long = length_piece t.moves t.len d.size (omega (arith, t.fits, t.rooms, ap size_of e))

  sizes_more : take (t.count + 1) (set t.sizes t.count d.size) ≡ take t.count t.sizes ++ (d.size ∷ [])
  sizes_more = take_more_set t.sizes t.count d.size (omega (arith, room, t.slots))

  standing_more : cut (take (t.count + 1) (set t.sizes t.count d.size)) t.moves ≡ standing_in t ++ (r ∷ [])
  standing_more =
      ap (λ (ns : List ℕ). cut ns t.moves) sizes_more ∙ cut_push (take t.count t.sizes) d.size t.moves ∙
      ap (λ (at : ℕ). standing_in t ++ (piece at d.size t.moves ∷ [])) t.stacked

pub bounds-self-self : goal.bounds-self-self
bounds-self-self c = room c.args.self.now c.args.drained c.requires.drain

pub invariant_of-self-clause-slots : goal.invariant_of-self-clause-slots
invariant_of-self-clause-slots c = length-set c.args.self.now.sizes c.args.self.now.count c.args.drained.size ∙ c.args.self.now.slots

pub invariant_of-self-clause-few : goal.invariant_of-self-clause-few
invariant_of-self-clause-few c = omega (arith, room c.args.self.now c.args.drained c.requires.drain)

pub invariant_of-self-clause-stacked : goal.invariant_of-self-clause-stacked
invariant_of-self-clause-stacked c =
    let t = c.args.self.now in
    let d = c.args.drained in
    ap sum (sizes_more t d c.requires.drain) ∙ sum_by_push (λ (x : ℕ). x) (take t.count t.sizes) d.size ∙ ap (λ (n : ℕ). n + d.size) t.stacked

pub invariant_of-self-clause-leading : goal.invariant_of-self-clause-leading
invariant_of-self-clause-leading c =
    let t = c.args.self.now in
    ap (leads (market t.lists) t.settled.places) (append-nil _ ∙ standing_more t c.args.drained c.requires.drain) ∙ led t c.args.drained c.requires.drain

pub invariant_of-self-clause-reached : goal.invariant_of-self-clause-reached
invariant_of-self-clause-reached c w =
    let t = c.args.self.now in
    ap (λ (l : List ℕ). place l w)
    (ap (led_to t.settled.places) (standing_more t c.args.drained c.requires.drain) ∙ led_to_push t.settled.places (standing_in t) (r t c.args.drained c.requires.drain) ∙
    ap (moved (r t c.args.drained c.requires.drain)) (places_are t) ∙ sym c.requires.after)

pub returns : goal.returns
returns c =
    let t = c.args.self.now in
    let n : t.next + c.args.drained.size ≡ t.next + length (r t c.args.drained c.requires.drain) = omega (arith, long t c.args.drained c.requires.drain) in
    record {
      shows = λ i. record { placement = c.requires.after i; standing = standing_more t c.args.drained c.requires.drain i; drain = None; next = n i };
      keeps = record { lists = refl; settled = refl };
    }
