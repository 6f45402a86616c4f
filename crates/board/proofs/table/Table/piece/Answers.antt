-- At most 64 moves are copied whole.
use Rattle.std.proofs.Common.{◌≡◌, ℕ, ◌+◌, ◌-◌, length, take, drop, ap, ◌∙◌, arith, length-take}
use Rattle.std.proofs.lemmas.List.{take_all}
use Rattle.rotation.specs.Listing.{listing}
use Rattle.board.specs.Pieces.{piece}
use Rattle.board.proofs.Pieces.{length_piece}
use Rattle.board.proofs.table.Table.piece.Goals as goal

pub returns : goal.returns
returns c =
    let ms = c.args.self.now.moves in
    let at = c.args.at in
    let size = c.args.size in
    let e : at + size - at ≡ size = omega arith in
    let whole : listing c.of.result ≡ piece at size ms =
    c.of.ensures ∙ ap (λ (n : ℕ). take 64 (take n (drop at ms))) e ∙ take_all 64 (piece at size ms) (omega (arith, length-take size (drop at ms))) in
    record { moves = whole; long = ap length whole ∙ length_piece ms at size (omega (arith, c.args.self.now.rooms)) }
