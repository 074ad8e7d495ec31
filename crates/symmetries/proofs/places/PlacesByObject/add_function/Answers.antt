use Rattle.std.proofs.Common.{map, ap}
use Rattle.faults.proofs.Results.{if_ok}
use Rattle.task.specs.TaskParts.{object_of, value_of}
use Rattle.symmetries.specs.PlacesByObject.{functions_of}
use Rattle.symmetries.proofs.PlaceLemmas.{added_by, added_nowhere}
use Rattle.symmetries.proofs.places.PlacesByObject.add_function.Goals as goal

pub returns-in-Some : goal.returns-in-Some
returns-in-Some c =
    if_ok c.add.result
    (λ _ so. added_by (functions_of (map value_of c.args.values.now.entries)) c.args.place _ (map object_of c.as_slice.result.now) c.args.self.now c.add.new.self
    c.in-Some.ensures (ap (map object_of) c.as_slice.ensures.value) so)
    c.add.ensures

pub returns-in-None : goal.returns-in-None
returns-in-None c = added_nowhere (functions_of (map value_of c.args.values.now.entries)) c.args.place c.args.self.now c.in-None.ensures
