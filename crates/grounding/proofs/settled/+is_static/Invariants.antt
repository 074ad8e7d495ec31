use Rattle.std.proofs.Common.{◌≡◌, true, take}
use Rattle.std.specs.List.{list_all}
use Rattle.task.specs.TaskParts.{formula_of}
use Rattle.grounding_instances.specs.Numbering.{task_in}
use Rattle.grounding.specs.Settled.{is_static}
use Rattle.grounding.proofs.settled.+is_static.Given as goal

-- the parts so far are static
abbrev pub invariant-are_static-loop-part : goal.invariant-are_static-loop-part
invariant-are_static-loop-part l = list_all (λ part. is_static (task_in l.numbering) (formula_of part)) (take l.part-index l.parts) ≡ true
