use Rattle.std.proofs.Common.{◌≡◌, [], map, take}
use Rattle.std.specs.List.{flat_map, fold}
use Rattle.task.specs.TaskParts.{atom_of}
use Rattle.formulas.specs.Literals.{literal_of}
use Rattle.explain_tasks.specs.Goals.{atom_asked_for, with_passing}
use Rattle.explain_goals.specs.Notes.{most_found}
use Rattle.explain_goals.specs.Views.{is_out}
use Rattle.explain_goals.proofs.relaxation.Relaxation.missing.Given as goal

-- what the literals so far give
abbrev pub invariant-loop-literal : goal.invariant-loop-literal
invariant-loop-literal l =
    map atom_of l.found.items ≡ fold (with_passing (is_out l.self) most_found) [] (flat_map (λ one. atom_asked_for (literal_of one)) (take l.literal-index l.literals))
