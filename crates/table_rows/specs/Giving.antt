-- The greatest weight of rows that agree, row by row.
use Rattle.std.specs.Prelude.{ℕ, Bool, ℤ, List, Option, Some, if◌then◌else◌}
use Rattle.std.specs.List.{list_all}
use Rattle.lower_bounds.specs.TableFunctions.{Row, weight_at}
use Rattle.table_rows.specs.Placed.{PlacedLiteral, is_so}
use Rattle.table_rows.specs.Afters.{raised}

-- raised to the weight of the row of this set, if the literals are true of it
abbrev pub given_by : List PlacedLiteral → ℕ → Row → List Bool → Option ℤ → Option ℤ
given_by literals place row set most = if list_all (is_so set) literals then Some (raised most (weight_at place row)) else most
