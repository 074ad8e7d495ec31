-- The notes on a task.
use Rattle.std.specs.Prelude.{◌≡◌, ℕ, map}
use Rattle.task.specs.TaskParts.{atom_of}
use Rattle.formulas.specs.State.{instance_of}
use Rattle.model.specs.Task.{Task}
use Rattle.explain_tasks.specs.declared.notes.TaskNotes.{TaskNotes}
use Rattle.explain_tasks.specs.declared.ground_notes.GroundNotes.{GroundNotes}
use Rattle.explain_tasks.specs.Actions.{AreActionNotesOf}
use Rattle.explain_tasks.specs.Costs.{AreLacking, all_looked_at, ignores_costs, lacks_costs, passed_over}
use Rattle.explain_tasks.specs.Goals.{first_missing}
use Rattle.explain_tasks.specs.Predicates.{doubtful_predicates}
use Rattle.explain_tasks.specs.declared.predicates.Doubt.TheVariants.{NeverTrue, OnlyDeleted}
use Rattle.explain_tasks.specs.StartGoal.{is_empty, starts_at_goal}
use Rattle.explain_tasks.specs.Unused.{idle_actions, unasked_predicates, unnamed_objects}

-- the maximum number of missing values, and of goal atoms, that are searched for: one more than are reported
abbrev pub most_found : ℕ
most_found = 11

-- the notes that the files lead to
pub record AreNotesOf (t : Task) (notes : TaskNotes) : Type 0 where
  pub ignores_costs : notes.ignores_costs ≡ ignores_costs t
  pub lacks_costs : notes.lacks_costs ≡ lacks_costs t
  pub unasked_predicates : notes.unasked_predicates.items ≡ unasked_predicates t
  pub never_true_predicates : notes.never_true_predicates.items ≡ doubtful_predicates t NeverTrue
  pub only_deleted_predicates : notes.only_deleted_predicates.items ≡ doubtful_predicates t OnlyDeleted
  pub unnamed_objects : notes.unnamed_objects.items ≡ unnamed_objects t
  pub actions : AreActionNotesOf t notes.actions
  pub has_empty_goal : notes.has_empty_goal ≡ is_empty t.goal
  pub starts_at_goal : notes.starts_at_goal ≡ starts_at_goal t

-- the notes that the kept instances lead to, with this limit of instances per action
pub record AreGroundNotesOf (t : Task) (most : ℕ) (notes : GroundNotes) : Type 0 where
  pub lacking : AreLacking t most_found (all_looked_at t most) (map instance_of notes.lacking.items)
  pub passed_over : notes.passed_over.items ≡ passed_over t most
  pub missing_goals : map atom_of notes.missing_goals.items ≡ first_missing t most_found
  pub idle_actions : notes.idle_actions.items ≡ idle_actions t
