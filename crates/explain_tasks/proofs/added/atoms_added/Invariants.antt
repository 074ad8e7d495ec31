use Rattle.std.proofs.Common.{take}
use Rattle.std.specs.FinSet.{empty}
use Rattle.std.specs.List.{list_any}
use Rattle.task.specs.Task.{task_of}
use Rattle.formulas.specs.State.{instance_of, state_of}
use Rattle.explain_tasks.specs.Goals.{GainsAsked, is_added_by}
use Rattle.explain_tasks.proofs.added.atoms_added.Given as goal

-- the atoms that the instances so far add
abbrev pub invariant-loop-instance : goal.invariant-loop-instance
invariant-loop-instance l = GainsAsked (state_of l.asked) (λ a. list_any (λ one. is_added_by (task_of l.task) a (instance_of one)) (take l.instance-index l.instances)) empty (state_of l.added)
