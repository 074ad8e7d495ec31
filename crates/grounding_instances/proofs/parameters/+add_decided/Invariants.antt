use Rattle.std.proofs.Common.{◌≡◌, map, take, ◌++◌}
use Rattle.std.specs.List.{flat_map}
use Rattle.task.specs.TaskParts.{formula_of}
use Rattle.grounding_instances.specs.Literals.{decided_literals}
use Rattle.grounding_instances.specs.Parameters.{lent_formula}
use Rattle.grounding_instances.proofs.parameters.+add_decided.Given as goal

-- what the parts so far give is added
abbrev pub invariant-loop-part : goal.invariant-loop-part
invariant-loop-part l =
    map lent_formula l.found.items ≡ map lent_formula l.initial.found.items ++ flat_map (λ part. decided_literals l.count (formula_of part)) (take l.part-index l.part-items)
