-- The results of the fairness test.
use Rattle.std.specs.Prelude.{ℕ, List, All}
use Rattle.model.specs.Task.{Atom, Task, Instance}
use Rattle.model.specs.Meaning.{cost_of}
use Rattle.model.specs.StaticallyFalse.{kept_instances}
use Rattle.lower_bounds.specs.PotentialFunctions.{PotentialFunction}
use Rattle.lower_bounds.specs.FairPotentials.{IsFairAt, IsFairAtGoals, AreFairAt, nothing, IsFirstUnfairAt}
use Rattle.potentials.specs.declared.allowance.Allowance.{Allowance}
use Rattle.potentials.specs.declared.allowance.Allowance.TheVariants.{Cost, Nothing}
use Rattle.potentials.specs.declared.fairness.Fairness.{Fairness}
use Rattle.potentials.specs.declared.fairness.Fairness.TheVariants.{Fair, Goal}
use Rattle.potentials.specs.declared.fairness.Fairness.TheVariants as reported

-- the allowance of an instance of the task
abbrev pub allowed_by : Allowance → Task → Instance → ℕ
allowed_by Cost task = cost_of task
allowed_by Nothing task = nothing

-- each kept instance is fair at its allowance
abbrev pub AreInstancesFairAt : (Instance → ℕ) → Task → List Atom → PotentialFunction → Type 0
AreInstancesFairAt allowance task atoms p = All (λ (i : Instance). IsFairAt (allowance i) task atoms p.weights i) (kept_instances task)

-- at its cost; and at allowance 0
abbrev pub AreInstancesFair : Task → List Atom → PotentialFunction → Type 0
AreInstancesFair task = AreInstancesFairAt (cost_of task) task

abbrev pub AreInstancesDeadFair : Task → List Atom → PotentialFunction → Type 0
AreInstancesDeadFair = AreInstancesFairAt nothing

abbrev pub ReportsAt : (Instance → ℕ) → Task → List Atom → PotentialFunction → Fairness → Type 0
ReportsAt allowance task atoms p Fair = AreFairAt allowance task atoms p
ReportsAt allowance task atoms p (reported.Instance number) = IsFirstUnfairAt allowance task atoms p number
ReportsAt allowance task atoms p Goal = AreInstancesFairAt allowance task atoms p × (¬ IsFairAtGoals task atoms p)

-- whether they are fair
abbrev pub Reports : Task → List Atom → PotentialFunction → Fairness → Type 0
Reports task = ReportsAt (cost_of task) task

-- whether they are dead-fair
abbrev pub DetectsDead : Task → List Atom → PotentialFunction → Fairness → Type 0
DetectsDead = ReportsAt nothing
