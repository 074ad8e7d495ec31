use Rattle.std.proofs.Common.{◌≡◌, drop, map}
use Rattle.task.specs.TaskParts.{formula_of}
use Rattle.task.specs.Names.{names_in}
use Rattle.explain_plans.specs.NamesLeft.{after_all_lines, formulas}
use Rattle.explain_plans.proofs.variable_names.+names_left.Given as goal

-- the names after the remaining formulas are those after all
abbrev pub invariant-names_after_each-loop-part : goal.invariant-names_after_each-loop-part
invariant-names_after_each-loop-part l =
    after_all_lines (formulas (map formula_of (drop l.part-index l.parts))) (names_in l.left) ≡ after_all_lines (formulas (map formula_of l.parts)) (names_in l.names)
