use Rattle.std.proofs.Common.{◌≡◌, map, take}
use Rattle.std.specs.List.{filter_map}
use Rattle.grounding.specs.Views.{numbered_of}
use Rattle.table_rows.specs.Placed.{placed_of, placed_in}
use Rattle.table_rows.proofs.placed.placed.Given as goal

-- those of the literals so far
abbrev pub invariant-loop-literal : goal.invariant-loop-literal
invariant-loop-literal l = map placed_of l.found.items ≡ filter_map (placed_in l.scope) (map numbered_of (take l.literal-index l.literals))
