use Rattle.std.proofs.Common.{◌≡◌, map, take}
use Rattle.grounding.specs.Changes.{conditional_of}
use Rattle.table_rows.specs.PlacedChanges.{when_of}
use Rattle.table_rows.proofs.PlacingLemmas.{other_whens}
use Rattle.table_rows.proofs.placing.whens.Given as goal

abbrev pub invariant-loop-change : goal.invariant-loop-change
invariant-loop-change l = map when_of l.found.items ≡ other_whens l.scope l.added (map conditional_of (take l.change-index l.changes))
