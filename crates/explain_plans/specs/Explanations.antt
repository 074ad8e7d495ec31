-- Explanations of a plan, in the model's terms.
use Rattle.std.specs.Prelude.{◌≡◌, ℕ, ◌-◌, Bool, not, List, [], length, map, take, slice_get, Some}
use Rattle.explain_plans.specs.declared.explanations.Reasons.{Reasons}
use Rattle.explain_plans.specs.declared.explanations.PlanExplanation.{PlanExplanation}
use Rattle.explain_plans.specs.declared.explanations.PlanExplanation.TheVariants.{Solves, NotApplicable, GoalMissed}
use Rattle.explain_plans.specs.FalseParts.{false_parts}
use Rattle.explain_plans.specs.Parts.{AreFirst, AreHistories}
use Rattle.task.specs.VariableNames.{VariableNames, names_of_action}
use Rattle.model.specs.Task.{Task, Name, Instance, Schema, Formula}
use Rattle.model.specs.Meaning.{State, initial_state, system_of, cost_of, has_amount}
use Rattle.model.specs.Runs.{run}
use Rattle.model.specs.Runs as runs

-- the verdict of an explanation
abbrev pub verdict_of : PlanExplanation → runs.Verdict
verdict_of (Solves costs total) = runs.valid total
verdict_of (NotApplicable step lacks_cost reasons) = runs.not_applicable step
verdict_of (GoalMissed reasons) = runs.goal_missed

-- Why the formula does not hold after these steps, under this binding and with these names for its quantified variables: the
-- first of its minimal false parts, each with its history.
pub record AreReasons (task : Task) (steps : List Instance) (formula : Formula) (objects : List ℕ) (names : List Name) (reasons : Reasons) : Type 0 where
  pub state : State
  pub runs : run (system_of task) (initial_state task) steps ≡ Some state
  pub parts : AreFirst (false_parts task formula objects names state) reasons.parts.items reasons.more
  pub one_each : length reasons.histories.items ≡ length reasons.parts.items
  pub histories : AreHistories task steps reasons.parts.items reasons.histories.items

-- Why a step, counted from 1, is not applicable after those before it: what its precondition lacks, and whether its cost increase
-- has no value.
pub record IsWhyNotApplicable (task : Task) (names : VariableNames) (plan : List Instance) (step : ℕ) (lacks_cost : Bool) (reasons : Reasons) : Type 0 where
  pub instance : Instance
  pub schema : Schema
  pub found_there : slice_get plan (step - 1) ≡ Some instance
  pub is_its_schema : slice_get task.schemas instance.schema ≡ Some schema
  pub cost : lacks_cost ≡ not (has_amount task schema instance.objects)
  pub precondition : AreReasons task (take (step - 1) plan) schema.precondition instance.objects (names_of_action names instance.schema) reasons

-- the explanation of the verdict is true: the cost of each step, or why the plan fails, with these names of variables
abbrev pub IsExplained : Task → VariableNames → List Instance → PlanExplanation → Type 0
IsExplained task names plan (Solves costs total) = costs.items ≡ map (cost_of task) plan
IsExplained task names plan (NotApplicable step lacks_cost reasons) = IsWhyNotApplicable task names plan step lacks_cost reasons
IsExplained task names plan (GoalMissed reasons) = AreReasons task plan task.goal [] names.goal reasons
