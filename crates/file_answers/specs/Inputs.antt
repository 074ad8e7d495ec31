-- The fault of the texts of a domain and a problem, and of that of a plan, if one is given.
use Rattle.std.specs.Prelude.{ℕ, List, Option, None, Some}
use Rattle.model.specs.Task.{Task, Instance}
use Rattle.model.specs.PlanText.{IsPlanText}
use Rattle.model.specs.Files.{FileFault, IsTaskFault, IsFileFault}

-- the text is this plan of the task; if no text is given, neither is a plan
abbrev pub IsGiven : Task → (text : Option (List ℕ)) → (plan : Option (List Instance)) → Type 0
IsGiven task None None = Unit {0}
IsGiven task None (Some plan) = ⊥
IsGiven task (Some text) None = ⊥
IsGiven task (Some text) (Some plan) = IsPlanText task text plan

-- the fault of two texts that are not a task, or otherwise of a third text that is not a plan for it
abbrev pub IsInputFault : (domain problem : List ℕ) → (plan : Option (List ℕ)) → FileFault → Type 0
IsInputFault domain problem None fault = IsTaskFault domain problem fault
IsInputFault domain problem (Some plan) fault = IsFileFault domain problem plan fault
