use Rattle.std.proofs.Common.{◌≡◌, ◌<◌, ◌^◌, take}
use Rattle.lower_bounds.specs.TableFunctions.{functions_of, greatest_value}
use Rattle.tables.specs.Several.{several_of, state_of}
use Rattle.tables.proofs.several.TableFunctions.greatest.Given as goal

abbrev pub invariant-loop-place : goal.invariant-loop-place
invariant-loop-place l =
    (l.greatest ≡ greatest_value (take l.place (functions_of (several_of l.self))) (state_of l.known)) × (l.greatest < 2 ^ 63)
