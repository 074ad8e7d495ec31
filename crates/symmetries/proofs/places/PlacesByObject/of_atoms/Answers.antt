use Rattle.std.proofs.Common.{◌∙◌, map, sym, arith}
use Rattle.std.proofs.lemmas.List.{length-map}
use Rattle.task.specs.TaskParts.{atom_of}
use Rattle.symmetries.proofs.PlaceLemmas.{covers_none, covers_more, covers_all, added_at}
use Rattle.symmetries.proofs.places.PlacesByObject.of_atoms.Goals as goal

pub loop-place-init : goal.loop-place-init
loop-place-init c = covers_none (map atom_of c.args.atoms.now) c.none-places.result

pub loop-place-preserved : goal.loop-place-preserved
loop-place-preserved c =
    let one = c.index-atoms-place in
    covers_more (map atom_of c.args.atoms.now) c.loop-place.place c.loop-place.places c.add.new.self c.loop-place.invariant
    (added_at c.args.atoms.now c.loop-place.place one.result c.loop-place.places c.add.new.self c.loop-place-test.true one.is
    c.as_slice.result.now (c.as_slice.ensures.value ∙ sym (λ i. (one.is i).objects.items)) c.in_ok-add.ensures)

pub returns : goal.returns
returns c =
    let same = length-map c.args.atoms.now atom_of in
    covers_all (map atom_of c.args.atoms.now) c.loop-place.place c.loop-place.places (omega (arith, same, c.loop-place-test.false)) c.loop-place.invariant
