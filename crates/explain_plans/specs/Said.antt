-- Explanations of a plan, byte by byte.
use Rattle.std.specs.Prelude.{◌≡◌, ℕ, List, ◌++◌}
use Rattle.std.specs.Str.Lossy.{utf8_lossy}
use Rattle.explain_plans.specs.declared.explanations.PlanExplanation.{PlanExplanation}
use Rattle.explain_plans.specs.declared.explanations.PlanExplanation.TheVariants.{Solves, NotApplicable, GoalMissed}
use Rattle.explain_plans.specs.PlanLines.{cost_lines, reasons_text, step_reasons_text}
use Rattle.model.specs.Task.{Task, Instance}

-- The lines beside the verdict are these bytes, with invalid ones replaced; names have none. They say what each step costs, why a step
-- is not applicable, or why the goal is missed.
abbrev pub HasDetails : Task → List Instance → PlanExplanation → (text : List ℕ) → Type 0
HasDetails task steps (Solves costs total) text = text ≡ utf8_lossy (cost_lines task 0 0 steps costs.items)
HasDetails task steps (NotApplicable step lacks_cost reasons) text = text ≡ utf8_lossy (step_reasons_text task steps step lacks_cost reasons)
HasDetails task steps (GoalMissed reasons) text = text ≡ utf8_lossy (reasons_text task steps reasons)

-- ---- intermediate definitions

-- the lines are added
abbrev pub AddsDetails : Task → List Instance → PlanExplanation → (before after : List ℕ) → Type 0
AddsDetails task steps (Solves costs total) before after = after ≡ before ++ cost_lines task 0 0 steps costs.items
AddsDetails task steps (NotApplicable step lacks_cost reasons) before after = after ≡ before ++ step_reasons_text task steps step lacks_cost reasons
AddsDetails task steps (GoalMissed reasons) before after = after ≡ before ++ reasons_text task steps reasons
