use Rattle.std.proofs.Common.{map}
use Rattle.task.specs.Task.{task_of}
use Rattle.grounding_instances.specs.Parameters.{lent_formula}
use Rattle.grounding_instances.specs.Joins.{AreIndexes}
use Rattle.grounding_instances.proofs.joins.Join.of_literals.Given as goal

-- the indexes so far are of the literals
abbrev pub invariant-loop-literal : goal.invariant-loop-literal
invariant-loop-literal l = AreIndexes (task_of l.statics.task.now) (map lent_formula l.literals) l.number l.indexes.items
