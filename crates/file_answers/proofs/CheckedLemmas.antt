-- Faults of the inputs of a check, and of the given plan.
use Rattle.std.proofs.Common.{◌≡◌, ℕ, List, sym, subst}
use Rattle.std.specs.Prelude.{Option, None, Some, IfSome, Result, Ok, Err, IfErr}
use Rattle.model.specs.Task.{Task, Instance}
use Rattle.model.specs.PlanText.{IsPlanText}
use Rattle.model.specs.Files.{FileFault, IsTaskOf, IsFileFault}
use Rattle.file_answers.specs.declared.files.FileFault as file
use Rattle.file_answers.specs.Inputs.{IsGiven, IsInputFault}
use Rattle.file_answers.specs.Files.{reported_in}
use Rattle.file_answers.proofs.FilesRead.{none_reported, none_reported_of_task}

-- the text of a plan is given, or none
pub none_given : (task : Task) (text : Option (List ℕ)) → text ≡ None → IsGiven task text None
none_given task text is = subst (λ text. IsGiven task text None) (sym is) tt

pub given : (task : Task) (text : Option (List ℕ)) (bytes : List ℕ) (plan : List Instance) → text ≡ Some bytes → IsPlanText task bytes plan → IsGiven task text (Some plan)
given task text bytes plan is read = subst (λ text. IsGiven task text (Some plan)) (sym is) read

module _ (domain problem : List ℕ) where
  pub plan_input : (text : Option (List ℕ)) (plan : List ℕ) → text ≡ Some plan → (o : Option FileFault) → IfSome o (IsFileFault domain problem plan)
      → IfSome o (IsInputFault domain problem text)
  plan_input text plan handed o h = subst (λ text. IfSome o (IsInputFault domain problem text)) (sym handed) h

  -- no fault is reported for a task, and a plan for it if one is given
  pub none_reported_of_inputs : (plan : Option (List ℕ)) (o : Option FileFault) → IfSome o (IsInputFault domain problem plan)
      → (task : Task) (steps : Option (List Instance)) → IsTaskOf domain problem task → IsGiven task plan steps → o ≡ None
  none_reported_of_inputs None o h task None is handed = none_reported_of_task domain problem o h task is
  none_reported_of_inputs None o h task (Some steps) is handed = absurd handed
  none_reported_of_inputs (Some plan) o h task None is handed = absurd handed
  none_reported_of_inputs (Some plan) o h task (Some steps) is handed = none_reported domain problem plan o h task steps (record { is_task = is; is_plan = handed })

  -- the same for the result of a call
  pub none_reported_of_inputs_in : {T : Type 0} (plan : Option (List ℕ)) (r : Result T file.FileFault) → IfErr r (λ fault. IfSome (reported_in fault) (IsInputFault domain problem plan))
      → (task : Task) (steps : Option (List Instance)) → IsTaskOf domain problem task → IsGiven task plan steps → IfErr r (λ fault. reported_in fault ≡ None)
  none_reported_of_inputs_in plan (Ok checked) h task steps is handed = tt
  none_reported_of_inputs_in plan (Err fault) h task steps is handed = none_reported_of_inputs plan (reported_in fault) h task steps is handed
