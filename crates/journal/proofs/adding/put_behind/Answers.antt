-- What a copy into the middle of a buffer leaves.
use Rattle.std.proofs.Common.{ℕ, ◌+◌, List, ◌++◌, take, ◌∙◌, ap₂, arith}
use borrow.Rule.Slice.PartMut.{Post-is}
use Rattle.journal.proofs.adding.put_behind.Goals as goal

pub returns : goal.returns
returns c =
    let buffer = c.args.buffer.now in
    let used = c.args.used in
    ap₂ (λ (ys zs : List ℕ). take used buffer ++ (ys ++ zs)) (c.copy_from_slice.ensures.after ∙ c.bytes_of.ensures) (Post-is used (used + 15) buffer (omega arith))
