use Rattle.std.proofs.Common.{◌≡◌, map, take}
use Rattle.std.specs.List.{filter_map}
use Rattle.task.specs.TaskParts.{atom_of}
use Rattle.formulas.specs.Literals.{literal_of}
use Rattle.model.specs.NumberedLiterals.{numbered_literal}
use Rattle.grounding_instances.specs.Numbers.{numbered_of}
use Rattle.grounding_instances.proofs.numbers.numbered.Given as goal

-- what the literals so far give
abbrev pub invariant-loop-literal : goal.invariant-loop-literal
invariant-loop-literal l =
    map numbered_of l.found.items ≡ filter_map (numbered_literal (map atom_of l.atoms.keys)) (map literal_of (take l.literal-index l.literals))
