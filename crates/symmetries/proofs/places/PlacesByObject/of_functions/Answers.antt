use Rattle.std.proofs.Common.{map, ◌≤◌, length, arith}
use Rattle.std.proofs.lemmas.List.{length-map}
use Rattle.model.specs.Task.{FunctionValue}
use Rattle.task.specs.TaskParts.{value_of}
use Rattle.symmetries.specs.PlacesByObject.{functions_of}
use Rattle.symmetries.proofs.PlaceLemmas.{covers_none, covers_more, covers_all}
use Rattle.symmetries.proofs.places.PlacesByObject.of_functions.Goals as goal

pub loop-place-init : goal.loop-place-init
loop-place-init c = covers_none (functions_of (map value_of c.args.values.now.entries)) c.none-places.result

pub loop-place-preserved : goal.loop-place-preserved
loop-place-preserved c =
    covers_more (functions_of (map value_of c.args.values.now.entries)) c.loop-place.place c.loop-place.places c.add_function.new.self c.loop-place.invariant c.in_ok-add_function.ensures

pub returns : goal.returns
returns c =
    let same = length-map c.args.values.now.entries value_of in
    let also = length-map (map value_of c.args.values.now.entries) (λ (v : FunctionValue). v.function) in
    let past : length (functions_of (map value_of c.args.values.now.entries)) ≤ c.loop-place.place = omega (arith, same, also, c.loop-place-test.false, c.len-place-end.ensures.len) in
    covers_all (functions_of (map value_of c.args.values.now.entries)) c.loop-place.place c.loop-place.places past c.loop-place.invariant
