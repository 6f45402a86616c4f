-- What is laid behind the standing moves changes none of them, and can be drained.
use Rattle.std.proofs.Common.{◌≡◌, ℕ, ◌+◌, ◌≤◌, true, List, ◌++◌, length, take, drop, None, Option, sym, refl, ap, ◌∙◌, subst, ap₂, arith, length-take}
use Rattle.fleet.specs.Lists.{market}
use Rattle.fleet.specs.declared.Move.{Move}
use Rattle.matching.specs.Entries.{place}
use Rattle.rotation.specs.declared.move_list.MoveList.{MoveList}
use Rattle.rotation.specs.Listing.{listing}
use Rattle.runs.specs.States as States
use Rattle.runs.specs.States.{Rotation, State}
use Rattle.runs.specs.Descent.{descends, leads, led_to}
use Rattle.board.specs.declared.drain.Drained.{Drained}
use Rattle.board.specs.declared.table.Table.{Table}
use Rattle.board.specs.Pieces.{piece, cut, opened}
use Rattle.board.specs.Shown.{drain_in, standing_in, state}
use Rattle.board.proofs.Held.{one_more, move_room}
use Rattle.board.proofs.Pieces.{laid, behind, length_laid}
use Rattle.board.proofs.table.Table.lay.Goals as goal

few : (r : MoveList) → length (listing r) ≤ 64
few r = omega (arith, length-take r.len r.moves, r.short, r.full)

-- the moves ms after the rotation r was laid into them, at a table where nothing is drained
module _ (t : Table) (r : Rotation) (ms : List Move) (shut : t.drain ≡ None) (e : ms ≡ take t.len t.moves ++ (r ++ drop (t.len + length r) t.moves)) where
  inside : t.len ≤ length t.moves
  inside = omega (arith, t.fits, t.rooms)

  stay : cut (take t.count t.sizes) ms ≡ standing_in t
  stay = behind t.moves r ms t.len inside e (take t.count t.sizes) t.stacked

  there : piece t.len (length r) ms ≡ r
  there = laid t.moves r ms t.len inside e

  lead : leads (market t.lists) t.settled.places (cut (take t.count t.sizes) ms ++ opened t.drain t.len ms) ≡ true
  lead =
      ap₂ (λ (rs : List Rotation) (d : Option Drained). leads (market t.lists) t.settled.places (rs ++ opened d t.len ms)) stay shut ∙
      subst (λ (d : Option Drained). leads (market t.lists) t.settled.places (standing_in t ++ opened d t.len t.moves) ≡ true) shut t.leading

  reach : (w : ℕ) → place (led_to t.settled.places (cut (take t.count t.sizes) ms)) w ≡ place t.current.places w
  reach w = ap (λ (rs : List Rotation). place (led_to t.settled.places rs) w) stay ∙ t.reached w

  shown : (let new : State = record { placement = t.current.places; standing = cut (take t.count t.sizes) ms; drain = drain_in t.drain t.len ms; next = t.next } in new) ≡ state t
  shown =
      ap₂ (λ (rs : List Rotation) (d : Option States.Drain). (let new : State = record { placement = t.current.places; standing = rs; drain = d; next = t.next } in new)) stay
      (ap (λ (d : Option Drained). drain_in d t.len ms) shut ∙ sym (ap (λ (d : Option Drained). drain_in d t.len t.moves) shut))

pub put-requires : goal.put-requires
put-requires c =
    let t = c.args.self.now in
    let r : Rotation = listing c.args.rotation.now in
    omega (arith, move_room t r (one_more t r c.requires.down c.requires.some), ap length c.as_slice-moves.ensures, t.rooms)

pub overflow_cast-result : goal.overflow_cast-result
overflow_cast-result c = omega (arith, ap length c.as_slice-moves.ensures, few c.args.rotation.now)

pub invariant_of-self : goal.invariant_of-self
invariant_of-self c =
    let t = c.args.self.now in
    let r : Rotation = c.as_slice-moves.result.now in
    let ms = c.put.new.into in
    let e = c.put.ensures in
    let room = move_room t (listing c.args.rotation.now) (one_more t (listing c.args.rotation.now) c.requires.down c.requires.some) in record { rooms = length_laid t.moves r ms t.len (omega (arith, t.fits, t.rooms)) e (omega (arith, t.rooms, room, ap length c.as_slice-moves.ensures)) ∙ t.rooms; slots = t.slots; few = t.few; stacked = t.stacked; fits = t.fits; slip = t.slip; known = t.known; numbers = t.numbers; leading = lead t r ms c.requires.shut e; reached = reach t r ms c.requires.shut e }

pub returns : goal.returns
returns c =
    let t = c.args.self.now in
    let all : Rotation = listing c.args.rotation.now in
    let r : Rotation = c.as_slice-moves.result.now in
    let ms = c.put.new.into in
    let e = c.put.ensures in
    let whole : r ≡ all = c.as_slice-moves.ensures in
    let size : length r ≡ length all = ap length whole in
    let laid-there : piece t.len (length r) ms ≡ r = there t r ms c.requires.shut e in
    record {
      same = record { shows = shown t r ms c.requires.shut e; keeps = record { lists = refl; settled = refl } };
      there = laid-there ∙ whole;
      ready = record {
        shut = c.requires.shut;
        room = omega (arith, size, move_room t all (one_more t all c.requires.down c.requires.some));
        long = ap length laid-there;
        some = omega (arith, size, c.requires.some);
        few = omega (arith, size, few c.args.rotation.now);
        down = ap (λ (q : Rotation). descends (market t.lists) (place t.current.places) 0 q) (laid-there ∙ whole) ∙ c.requires.down;
      };
    }
