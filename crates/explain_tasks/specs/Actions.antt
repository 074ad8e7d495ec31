-- Actions of which something is doubtful.
use Rattle.std.specs.Prelude.{◌≡◌, ℕ, Bool, false, not, ◌&&◌, List, [], length, slice_get, filter, if◌then◌else◌}
use Rattle.std.specs.List.{list_any, range_with_len}
use Rattle.std.specs.Option.{option_map_or}
use Rattle.model.specs.Task.{Task, Schema}
use Rattle.explain_tasks.specs.Conjuncts.{is_adding_what_it_deletes, is_contradictory}
use Rattle.explain_tasks.specs.Costs.{is_costly}
use Rattle.explain_tasks.specs.Inhabited.{is_uninhabited}
use Rattle.explain_tasks.specs.declared.actions.ActionNotes.{ActionNotes}
use Rattle.explain_tasks.specs.declared.actions.ActionDoubt.{ActionDoubt}
use Rattle.explain_tasks.specs.declared.actions.ActionDoubt.TheVariants.{Free, Contradictory, Uninhabited, Undoing}

-- Something is doubtful about an action: it does not increase the total cost, or only by the number 0; its precondition asks for an
-- atom and its negation; there is no object for one of its parameters; or it deletes and adds the same atom under no condition.
abbrev pub is_doubtful_schema : Task → ActionDoubt → Schema → Bool
is_doubtful_schema t Free s = not (is_costly s.increase)
is_doubtful_schema t Contradictory s = is_contradictory s.precondition
is_doubtful_schema t Uninhabited s = list_any (is_uninhabited t) s.parameters
is_doubtful_schema t Undoing s = is_adding_what_it_deletes s.effect

-- the same of the action with this number
abbrev pub is_doubtful : Task → ActionDoubt → ℕ → Bool
is_doubtful t doubt number = option_map_or (is_doubtful_schema t doubt) (slice_get t.schemas number) false

-- the actions of which this is so, in order
abbrev pub doubtful_actions : Task → ActionDoubt → List ℕ
doubtful_actions t doubt = filter (is_doubtful t doubt) (range_with_len 0 (length t.schemas))

-- the actions that do not increase the total cost, if it is minimized and others increase it
abbrev pub free_actions : Task → List ℕ
free_actions t = if t.has_metric && list_any (λ (s : Schema). is_costly s.increase) t.schemas then doubtful_actions t Free else []

-- the notes on the task's actions
pub record AreActionNotesOf (t : Task) (notes : ActionNotes) : Type 0 where
  pub free : notes.free.items ≡ free_actions t
  pub contradictory : notes.contradictory.items ≡ doubtful_actions t Contradictory
  pub uninhabited : notes.uninhabited.items ≡ doubtful_actions t Uninhabited
  pub undoing : notes.undoing.items ≡ doubtful_actions t Undoing
