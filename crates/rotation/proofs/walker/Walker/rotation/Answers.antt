-- The moves of the workers of the walk, from Gathered and Knowledge.
use Rattle.std.proofs.Common.{Bor, sym, ap, ◌∙◌, arith}
use Rattle.std.proofs.lemmas.List.{get_or_default}
use Rattle.fleet.specs.Lists.{market}
use Rattle.fleet.specs.Members.{members}
use Rattle.fleet.proofs.Same.{members_workers}
use Rattle.fleet.proofs.Sound.{lists_sound}
use Rattle.matching.specs.Entries.{place}
use Rattle.matching.specs.declared.farm.Situation.{Situation}
use Rattle.matching.specs.Farms.{placed, in_situation}
use Rattle.matching.specs.Stepping.{displacement}
use Rattle.rotation.specs.Moves.{carried}
use Rattle.rotation.specs.Listing.{listing}
use Rattle.rotation.proofs.Gathered.{walk_moves, rotation_past}
use Rattle.rotation.proofs.Knowledge.{noted_target}
use Rattle.rotation.proofs.walker.Walker.rotation.Goals as goal

pub returns-then-worker-ge64 : goal.returns-then-worker-ge64
returns-then-worker-ge64 g c =
    let s = c.args.self.now.situation.now in
    let sound = lists_sound s.farm.now.lists.now in
    rotation_past (market s.farm.now.lists.now) (g.P.Policy.chosen s.farm.now.policy.now) (placed s) c.args.worker
    (sound.past_empty c.args.worker (omega (arith, sound.few_workers)))

pub returns : goal.returns
returns g c =
    let s = c.args.self.now.situation.now in
    let m = market s.farm.now.lists.now in
    let C = g.P.Policy.chosen s.farm.now.policy.now in
    let on = c.in_ok-on.on in
    let walker = c.walk.new.self in
    let to = walker.to.places in
    let stays = c.in_ok-on.ensures.stays in
    walk_moves m C (placed s) c.args.worker (members on) (place to) (listing c.between.result) c.in_ok-on.ensures.found
    (λ v h.
    let (seen, some) = c.in_ok-on.ensures.displacing v h in
    let right = walker.right v seen ∙ ap (λ (b : Bor (Situation g.row.P.Denot)). in_situation g.P.Policy.chosen b.now displacement v) stays in
    sym (get_or_default to v 0 255 (omega (arith, walker.to.full, members_workers on v h))) ∙ noted_target m C (placed s) to walker.next v right some)
    (c.between.ensures ∙ ap (λ (b : Bor (Situation g.row.P.Denot)). carried (placed b.now) (place to) (members on) 64) stays)
