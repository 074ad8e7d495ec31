use Rattle.std.proofs.Common.{◌≡◌, map, take, ◌++◌}
use Rattle.task.specs.TaskParts.{object_of, effect_literal_of}
use Rattle.formulas.specs.Effects.{condition_of, change_of}
use Rattle.model.specs.Meaning.{change_under}
use Rattle.formulas.proofs.effects.add_changes_in.Given as goal

-- the changes of the literals so far are added
abbrev pub invariant-loop-literal : goal.invariant-loop-literal
invariant-loop-literal l =
    map change_of l.found.items
    ≡ map change_of l.initial.found.items ++ map (λ one. change_under (condition_of l.context.condition) (map object_of l.context.binding.now.items) (effect_literal_of one)) (take l.literal-index l.literals)
