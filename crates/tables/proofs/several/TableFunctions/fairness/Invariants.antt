use Rattle.std.proofs.Common.{ℕ, ◌<◌}
use Rattle.grounding.specs.Ground.{task_in, atoms_in}
use Rattle.lower_bounds.specs.FairTables.{IsFairAtGoals}
use Rattle.tables.specs.Several.{several_of}
use Rattle.tables.specs.Unfair.{function_in}
use Rattle.tables.proofs.several.TableFunctions.fairness.Given as goal

abbrev pub invariant-loop-place : goal.invariant-loop-place
invariant-loop-place l = (k : ℕ) → k < l.place → IsFairAtGoals (task_in l.ground) (atoms_in l.ground) (function_in (several_of l.self) k)
