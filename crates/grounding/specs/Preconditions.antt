-- Compiled preconditions.
use Rattle.std.specs.Prelude.{◌≡◌, List, slice_get, Some}
use Rattle.grounding.specs.declared.condition.Condition.{Condition}
use Rattle.grounding.specs.Conditions.{IsConditionOf}
use Rattle.model.specs.Task.{Atom, Schema, Task, Instance}

-- the condition is that of the instance's precondition
abbrev pub IsPrecondition : Task → List Atom → Instance → Condition → Type 0
IsPrecondition t atoms i c = (schema : Schema) → slice_get t.schemas i.schema ≡ Some schema → IsConditionOf t atoms schema.precondition i.objects c
