use Rattle.std.proofs.Common.{◌<◌, take}
use Rattle.lower_bounds.specs.TableFunctions.{functions_of, greatest_value}
use Rattle.tables.specs.Several.{several_of, state_of}
use Rattle.tables.proofs.several.TableFunctions.is_worth_with_rows.Given as goal

-- none was worth as much so far
abbrev pub invariant-loop-place : goal.invariant-loop-place
invariant-loop-place l = 0 < l.least → greatest_value (take l.place (functions_of (several_of l.self))) (state_of l.known) < l.least
