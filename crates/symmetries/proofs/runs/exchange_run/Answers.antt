use Rattle.std.proofs.Common.{length, arith}
use Rattle.packed_state.specs.Packed.{bits_of}
use Rattle.symmetries.proofs.RunSteps.{place_below, numbers_below, one_exchanged, still_wide, rest_exchanged, places_past}
use Rattle.symmetries.proofs.runs.exchange_run.Goals as goal

pub returns-then-differing-eq0 : goal.returns-then-differing-eq0
returns-then-differing-eq0 c =
    rest_exchanged c.args.run (bits_of c.places.state) c.places.from c.places.invariant.within c.differing.result c.differing.ensures (bits_of c.args.state.now)
    c.if-differing-eq0.true c.places.invariant.left

pub overflow_add-run : goal.overflow_add-run
overflow_add-run c =
    let inside =
    (numbers_below c.args.run (bits_of c.places.state) c.places.from c.places.invariant.within c.differing.result c.differing.ensures c.differing.type_inv c.if-differing-eq0.false
    (length (bits_of c.args.state.now)) c.requires).0 in
    omega (arith, inside, c.width.ensures, c.width.type_inv)

pub overflow_add-run-in-places : goal.overflow_add-run-in-places
overflow_add-run-in-places c =
    let inside =
    (numbers_below c.args.run (bits_of c.places.state) c.places.from c.places.invariant.within c.differing.result c.differing.ensures c.differing.type_inv c.if-differing-eq0.false
    (length (bits_of c.args.state.now)) c.requires).1 in
    omega (arith, inside, c.width.ensures, c.width.type_inv)

pub exchange_pair-requires-clause-lower : goal.exchange_pair-requires-clause-lower
exchange_pair-requires-clause-lower c =
    let inside =
    (numbers_below c.args.run (bits_of c.places.state) c.places.from c.places.invariant.within c.differing.result c.differing.ensures c.differing.type_inv c.if-differing-eq0.false
    (length (bits_of c.args.state.now)) c.requires).0 in
    omega (arith, inside, c.places.invariant.wide)

pub exchange_pair-requires-clause-upper : goal.exchange_pair-requires-clause-upper
exchange_pair-requires-clause-upper c =
    let inside =
    (numbers_below c.args.run (bits_of c.places.state) c.places.from c.places.invariant.within c.differing.result c.differing.ensures c.differing.type_inv c.if-differing-eq0.false
    (length (bits_of c.args.state.now)) c.requires).1 in
    omega (arith, inside, c.places.invariant.wide)

pub places-preserved : goal.places-preserved
places-preserved c =
    let now = bits_of c.places.state in
    let new = bits_of c.exchange_pair.new.state in
    let small = c.differing.type_inv in
    let some = c.if-differing-eq0.false in
    let within = c.places.invariant.within in
    let below = place_below c.args.run now c.places.from within c.differing.result c.differing.ensures small some in
    record {
      within = omega (arith, below);
      left =
          one_exchanged c.args.run now c.places.from within c.differing.result c.differing.ensures small some (bits_of c.args.state.now) new c.exchange_pair.ensures c.places.invariant.left;
      wide = still_wide c.args.run now c.places.from within c.differing.result c.differing.ensures small some new (length (bits_of c.args.state.now)) c.exchange_pair.ensures c.places.invariant.wide;
    }

pub returns : goal.returns
returns c = places_past c.args.run (bits_of c.places.state) (bits_of c.args.state.now) c.places.from c.places-test.false c.places.invariant.left
