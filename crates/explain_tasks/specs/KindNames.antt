-- The names of what notes list, by number.
use Rattle.std.specs.Prelude.{ℕ}
use Rattle.task.specs.NumberedNames.{predicate_name}
use Rattle.model.specs.Task.{Task, Name}
use Rattle.model.specs.PlanWriting.{object_name, schema_name}
use Rattle.explain_tasks.specs.declared.printing.Kind.{Kind}
use Rattle.explain_tasks.specs.declared.printing.Kind.TheVariants.{Predicate, Object, Action}

abbrev pub name_by : Task → Kind → ℕ → Name
name_by t Predicate = predicate_name t
name_by t Object = object_name t
name_by t Action = schema_name t
