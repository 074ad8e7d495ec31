use Rattle.std.proofs.Common.{◌≡◌, ◌+◌, ◌-◌, ◌%◌, ◌<◌, arith}
use Rattle.symmetries.specs.NumberPairs.{pair_of}
use Rattle.symmetries.proofs.RunLists.{first_stays, stays_inside, longer_made}
use Rattle.symmetries.proofs.run.Run.with.Goals as goal

pub invariant_of-result : goal.invariant_of-result
invariant_of-result c =
    let run = c.args.self in
    let place = c.in_ok-place.place in
    let room = c.if-not-has_room.false in
    let lower = c.has_room.ensures.lower room in
    let upper = c.has_room.ensures.upper room in
    let within : place < 64 = omega (arith, lower) in
    record {
      first = first_stays run place within;
      lower_inside = stays_inside run place within (64 - run.lower % 64) run.lower_inside (omega (arith, lower));
      upper_inside = stays_inside run place within (64 - run.upper % 64) run.upper_inside (omega (arith, upper));
    }

pub returns : goal.returns
returns c =
    let run = c.args.self in
    let pair = c.args.pair in
    let place = c.in_ok-place.place in
    let room = c.if-not-has_room.false in
    let lower = c.has_room.ensures.lower room in
    let below = c.in_ok-place.ensures.0 in
    let is = c.in_ok-place.ensures.1 in
    let above = c.in_ok-upper_place.ensures.0 in
    let other = c.in_ok-upper_place.ensures.1 in
    let same : place ≡ c.in_ok-upper_place.upper_place = omega (arith, c.if-place-upper_place.false) in
    let at : run.lower + place ≡ pair.lower = omega (arith, below, is) in
    let over : run.upper + place ≡ pair.upper = omega (arith, above, other, same) in
    longer_made run place (omega (arith, lower)) (pair_of pair) _ _ _ (c.has_room.ensures.after room) at over
