use Rattle.task.specs.Task.{task_of}
use Rattle.task.specs.TaskParts.{formula_of}
use Rattle.grounding_instances.specs.Joins.{AddsIndexes}
use Rattle.grounding_instances.proofs.joins.Indexer.add_indexes.Given as goal

-- the indexes added so far are of the literal
abbrev pub invariant-loop-key : goal.invariant-loop-key
invariant-loop-key l = AddsIndexes (task_of l.self.statics.now.task.now) (formula_of l.literal) l.self.number l.fn.indexes.items l.indexes.items
