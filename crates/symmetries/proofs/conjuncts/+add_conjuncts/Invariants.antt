use Rattle.std.proofs.Common.{◌≡◌, ◌++◌, take}
use Rattle.std.specs.List.{flat_map}
use Rattle.task.specs.TaskParts.{formula_of}
use Rattle.symmetries_definitions.specs.Symmetries.{conjuncts}
use Rattle.symmetries.specs.Lent.{formulas_lent}
use Rattle.symmetries.proofs.conjuncts.+add_conjuncts.Given as goal

-- what the parts so far give is added
abbrev pub invariant-loop-part : goal.invariant-loop-part
invariant-loop-part l =
    formulas_lent l.found.items ≡ formulas_lent l.initial.found.items ++ flat_map (λ part. conjuncts (formula_of part)) (take l.part-index l.part-items)
