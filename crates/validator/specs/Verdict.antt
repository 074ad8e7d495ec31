-- A verdict of the code, in the model's terms.
use Rattle.std.specs.Prelude.{◌≡◌, ◌-◌, List, Some, take}
use Rattle.validator.specs.declared.verdict.Verdict.{Verdict}
use Rattle.validator.specs.declared.verdict.Verdict.TheVariants.{Valid, NotApplicable, GoalMissed}
use Rattle.model.specs.Task as task
use Rattle.model.specs.Runs as runs
use Rattle.model.specs.Meaning.{system_of}

abbrev pub verdict_of : Verdict → runs.Verdict
verdict_of (Valid cost) = runs.valid cost
verdict_of (NotApplicable step) = runs.not_applicable step
verdict_of GoalMissed = runs.goal_missed

-- the actions lead from the initial state to this state, as far as they are applicable
abbrev pub LeadsTo : {S A : Type 0} → runs.System S A → List A → runs.Verdict → S → Type 0
LeadsTo t plan (runs.valid cost) s = runs.run t t.initial plan ≡ Some s
LeadsTo t plan (runs.not_applicable n) s = runs.run t t.initial (take (n - 1) plan) ≡ Some s
LeadsTo t plan runs.goal_missed s = runs.run t t.initial plan ≡ Some s

-- exactly one verdict is true of each list of instances
abbrev pub ExactlyOneVerdict : Type 0
ExactlyOneVerdict = (t : task.Task) (plan : List task.Instance) →
    (v : runs.Verdict) × runs.IsVerdict (system_of t) plan v × ((w : runs.Verdict) → runs.IsVerdict (system_of t) plan w → w ≡ v)
