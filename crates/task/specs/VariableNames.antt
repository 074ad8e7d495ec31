-- The names of quantified variables, in textual order: the model's task has only numbers for variables.
use Rattle.std.specs.Prelude.{ℕ, List, [], slice_get}
use Rattle.std.specs.Option.{option_map_or}
use Rattle.model.specs.Task.{Name}

-- the names in the precondition of each action, in the order of the actions, and those in the goal; a name begins with `?`
pub record VariableNames : Type 0 where
  pub actions : List (List Name)
  pub goal : List Name

-- the names of the action with this number
abbrev pub names_of_action : VariableNames → ℕ → List Name
names_of_action names number = option_map_or (λ (those : List Name). those) (slice_get names.actions number) []
