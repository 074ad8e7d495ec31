use Rattle.std.proofs.Common.{◌≡◌, ℕ, ◌<◌, Some}
use Rattle.std.specs.Prelude.{slice_get}
use Rattle.grounding.specs.Ground.{task_in, atoms_in}
use Rattle.model.specs.Task.{Instance}
use Rattle.model.specs.StaticallyFalse.{kept_instances}
use Rattle.lower_bounds.specs.FairTables.{IsFairAt}
use Rattle.tables.specs.Several.{several_of}
use Rattle.tables.specs.Unfair.{function_in, allowance_in}
use Rattle.tables.proofs.several.TableFunctions.first_place_with.Given as goal

abbrev pub invariant-loop-place : goal.invariant-loop-place
invariant-loop-place l = (i : Instance) → slice_get (kept_instances (task_in l.ground)) l.number ≡ Some i → (k : ℕ) → k < l.place
    → IsFairAt (allowance_in (task_in l.ground) (several_of l.self) k i) (task_in l.ground) (atoms_in l.ground) (function_in (several_of l.self) k) i
