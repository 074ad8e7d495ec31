use Rattle.std.proofs.Common.{◌≡◌, [], map, take}
use Rattle.std.specs.List.{flat_map, fold}
use Rattle.task.specs.TaskParts.{atom_of}
use Rattle.formulas.specs.Literals.{literal_of}
use Rattle.formulas.specs.State.{state_of}
use Rattle.grounding_instances.specs.Numbering.{task_in}
use Rattle.explain_tasks.specs.Goals.{atom_asked_for, is_neither, with_passing}
use Rattle.explain_tasks.proofs.added.GoalSearch.missing.Given as goal

-- what the literals so far give
abbrev pub invariant-loop-literal : goal.invariant-loop-literal
invariant-loop-literal l =
    map atom_of l.found.items
    ≡ fold (with_passing (is_neither (task_in l.self.numbering.now) (state_of l.self.added.now)) l.self.limit) [] (flat_map (λ one. atom_asked_for (literal_of one)) (take l.literal-index l.literals))
