use Rattle.std.proofs.Common.{◌≡◌, ◌<◌, length, get_or, refl, arith, pos}
use Rattle.std.proofs.lemmas.Int.{ints}
use Rattle.std.proofs.lemmas.List.{get_or_read, length-set}
use Rattle.tables.proofs.RowSumsLemmas.{added-more}
use Rattle.tables.proofs.row_sums.add_each.Goals as goal

pub loop-place-preserved : goal.loop-place-preserved
loop-place-preserved c =
    let k = c.loop-place.place in
    let old = c.args.totals.now.items in
    let items = c.loop-place.totals.items in
    let weights = c.args.weights.now in
    let below : k < length weights = c.loop-place-test.true in
    let first : k < length old = omega (arith, below, c.requires.long) in
    let within : k < length items = omega (arith, first, c.loop-place.invariant.long) in
    let left = c.loop-place.invariant.left k (omega arith) in
    let small = c.requires.small k (pos 0) first in
    let range = c.requires.range k (pos 0) below in
    let small_least = small.least in
    let small_most = small.most in
    let range_least = range.least in
    let range_most = range.most in
    let read : c.index_mut.result.now ≡ get_or items k (pos 0) = get_or_read items k c.index_mut.result.now within c.index_mut.ensures.value (pos 0) in
    added-more old weights k items _ _ within (length-set items k _) refl (omega (arith, ints)) c.loop-place.invariant
