-- The rotation of a worker goes down from the current placement, and has two moves at least.
use Rattle.std.proofs.Common.{rules, ◌≡◌, Some, sym, ap, ◌∙◌}
use Rattle.fleet.specs.Lists.{market}
use Rattle.fleet.proofs.Sound.{lists_sound}
use Rattle.matching.specs.declared.placement.Placement.{Placement}
use Rattle.matching.specs.Entries.{place}
use Rattle.rotation.specs.Listing.{listing}
use Rattle.rotation.specs.Moves.{rotation_at}
use Rattle.rotation.proofs.Walks.{rotation_found}
use Rattle.runs.proofs.Falls.{rotation_descends, rotation_two}
use Rattle.board.proofs.board.Board.offer.Goals as goal

pub lay-requires : goal.lay-requires
lay-requires g c =
    let t = c.args.self.now.table in
    let m = market t.lists in
    let C = g.P.Policy.chosen c.args.self.now.policy in
    let x = place t.current.places in
    let found : rotation_at m C x c.args.worker ≡ Some (listing c.in_ok-moves.moves) =
    sym (c.in_ok-moves.ensures ∙ ap (λ (p : Placement). rotation_at m C (place p.places) c.args.worker) c.new-staffing.ensures) in
    let rot = (rotation_found m C x c.args.worker (listing c.in_ok-moves.moves) found).0 in
    record { shut = search rules; down = rotation_descends (lists_sound t.lists) rot; some = rotation_two (lists_sound t.lists) rot }
