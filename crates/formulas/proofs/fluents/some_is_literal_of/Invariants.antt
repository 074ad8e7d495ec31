use Rattle.std.proofs.Common.{◌≡◌, false, take}
use Rattle.std.specs.List.{list_any}
use Rattle.task.specs.TaskParts.{effect_literal_of}
use Rattle.model.specs.Fluents.{is_literal_of}
use Rattle.formulas.proofs.fluents.some_is_literal_of.Given as goal

-- no literal so far has it
abbrev pub invariant-loop-literal : goal.invariant-loop-literal
invariant-loop-literal l = list_any (λ one. is_literal_of l.predicate.0 (effect_literal_of one)) (take l.literal-index l.literals) ≡ false
