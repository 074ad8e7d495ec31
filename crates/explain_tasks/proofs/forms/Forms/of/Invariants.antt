use Rattle.std.proofs.Common.{◌≡◌, take}
use Rattle.std.specs.List.{flat_map}
use Rattle.task.specs.Task.{task_of}
use Rattle.explain_tasks.specs.Forms.{added, forms_in, forms_of_schema}
use Rattle.explain_tasks.proofs.FormsLemmas.{none}
use Rattle.explain_tasks.proofs.forms.Forms.of.Given as goal

-- the features of the goal and of the schemas so far are found
abbrev pub invariant-loop-number : goal.invariant-loop-number
invariant-loop-number l =
    l.forms ≡ added (added none (forms_in (task_of l.task).goal)) (flat_map forms_of_schema (take l.number (task_of l.task).schemas))
