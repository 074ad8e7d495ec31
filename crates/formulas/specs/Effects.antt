-- The code's changes, in the model's terms.
use Rattle.std.specs.Prelude.{map, Option}
use Rattle.std.specs.Borrow.{Bor}
use Rattle.std.specs.Option.{option_map_or}
use Rattle.formulas.specs.declared.effects.GroundLiteral.{GroundLiteral}
use Rattle.formulas.specs.declared.effects.GroundLiteral.TheVariants.{Adds, Deletes}
use Rattle.formulas.specs.declared.effects.Change.{Change}
use Rattle.task.specs.declared.schemas.Formula.{Formula}
use Rattle.task.specs.TaskParts.{atom_of, object_of, formula_of}
use Rattle.model.specs.Task as task
use Rattle.model.specs.Meaning as meaning

abbrev pub ground_literal_of : GroundLiteral → meaning.GroundLiteral
ground_literal_of (Adds a) = meaning.adds (atom_of a)
ground_literal_of (Deletes a) = meaning.deletes (atom_of a)

-- the borrowed literal
abbrev pub lent_literal : Bor GroundLiteral → meaning.GroundLiteral
lent_literal l = ground_literal_of l.now

-- without a condition it is `(and)`
abbrev pub condition_of : Option (Bor Formula) → task.Formula
condition_of o = option_map_or (λ f. formula_of f.now) o (task.and task.no_formula)

abbrev pub change_of : Change → meaning.Change
change_of c = record {
  condition = condition_of c.condition;
  binding = map object_of c.binding.items;
  literal = ground_literal_of c.literal;
}
