use Rattle.std.proofs.Common.{◌≡◌, ◌∙◌, ◌+◌, ◌-◌, ◌∷◌, length, drop, get_or, arith}
use Rattle.std.proofs.lemmas.List.{drop_more}
use Rattle.task.specs.declared.atoms.ObjectId.{ObjectId}
use Rattle.symmetries.proofs.PairLemmas.{pair_inserted}
use Rattle.symmetries.proofs.exchange.images_of.Goals as goal

pub loop-place-preserved : goal.loop-place-preserved
loop-place-preserved c =
    let pairs = c.args.pairs.now in
    let place = c.loop-place.place in
    let d : ObjectId × ObjectId = (record { 0 = 0 }, record { 0 = 0 }) in
    let pair = get_or pairs (length pairs - 1 - place) d in
    let at : length pairs - (place + 1) ≡ length pairs - 1 - place = omega arith in
    let next : length pairs - (place + 1) + 1 ≡ length pairs - place = omega arith in
    pair_inserted pairs (length pairs - (place + 1)) (length pairs - place) pair c.loop-place.images.entries c.insert.new.self.entries c.insert-in-loop-place.new.self.entries
    (drop_more pairs (length pairs - (place + 1)) d (omega arith) ∙ (λ j. get_or pairs (at j) d ∷ drop (next j) pairs))
    c.in_ok-insert.ensures.entries c.in_ok-insert-2.ensures.entries c.loop-place.invariant
