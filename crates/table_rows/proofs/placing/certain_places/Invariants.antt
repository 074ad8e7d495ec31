use Rattle.std.proofs.Common.{◌≡◌, map, take}
use Rattle.std.specs.List.{filter_map}
use Rattle.grounding.specs.Changes.{counting_of}
use Rattle.table_rows.specs.Afters.{certain_place}
use Rattle.table_rows.proofs.placing.certain_places.Given as goal

abbrev pub invariant-loop-change : goal.invariant-loop-change
invariant-loop-change l = l.found.items ≡ filter_map (certain_place l.scope l.value) (map counting_of (take l.change-index l.changes))
