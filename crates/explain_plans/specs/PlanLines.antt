-- Explanations of a plan, byte by byte: the line of its verdict, and why it fails.
use Rattle.std.specs.Prelude.{ℕ, ◌+◌, ◌-◌, ◌==◌, Bool, List, [], ◌∷◌, ◌++◌, codes, if◌then◌else◌, map, slice_get}
use Rattle.std.specs.Fmt.{decimal}
use Rattle.std.specs.Option.{option_map_or}
use Rattle.std.specs.Str.Lossy.{utf8_lossy}
use Rattle.explain_plans.specs.declared.explanations.Reasons.{Reasons}
use Rattle.explain_plans.specs.FalseParts.{Part}
use Rattle.task.specs.NumberedNames.{function_name}
use Rattle.explain_plans.specs.FormulaText.{atom_text, formula_text, scope_at}
use Rattle.explain_plans.specs.Histories.{History, always, by_step}
use Rattle.explain_plans.specs.Parts.{part_of, history_of}
use Rattle.model.specs.Task.{Task, Instance, Schema, Increase, Formula, atom, not, by_number, by_function}
use Rattle.model.specs.PlanWriting.{step_text}
use Rattle.model.specs.Runs as runs

-- ---- steps

-- a step in plan syntax, with invalid bytes replaced; names have none
abbrev pub shown_step : Task → Instance → List ℕ
shown_step task i = utf8_lossy (step_text task i)

-- the step with this number, counted from 1; empty if there is none
abbrev pub step_name : Task → List Instance → ℕ → List ℕ
step_name task steps number = if number == 0 then [] else option_map_or (shown_step task) (slice_get steps (number - 1)) []

-- ---- the verdict

-- The line of a verdict: with the cost of a plan that solves the task, or with the number and text of an inapplicable step.
abbrev pub verdict_line : Task → List Instance → runs.Verdict → List ℕ
verdict_line task steps (runs.valid cost) = codes "valid, cost " ++ (decimal cost ++ codes "\n")
verdict_line task steps (runs.not_applicable step) =
    codes "step " ++ (decimal step ++ (codes ", " ++ (step_name task steps step ++ codes ", is not applicable\n")))
verdict_line task steps runs.goal_missed = codes "every step is applicable, but the goal is not reached\n"

-- ---- a plan that solves

-- the line of the step with this number, counted from 1: its text, its cost, and what the steps up to it cost together
abbrev pub cost_line : Task → (number : ℕ) → Instance → (cost total : ℕ) → List ℕ
cost_line task number step cost total =
    decimal number ++ (codes "  " ++ (shown_step task step ++ (codes "  cost " ++ (decimal cost ++ (codes ", " ++ (decimal total ++ codes " so far\n"))))))

-- the lines of steps with these costs, after a number of earlier ones that have cost this much
abbrev pub cost_lines : Task → (earlier paid : ℕ) → List Instance → (costs : List ℕ) → List ℕ
cost_lines task earlier paid [] costs = []
cost_lines task earlier paid (step ∷ steps) [] = []
cost_lines task earlier paid (step ∷ steps) (cost ∷ costs) =
    cost_line task (earlier + 1) step cost (paid + cost) ++ cost_lines task (earlier + 1) (paid + cost) steps costs

-- ---- reasons

-- the step with this number is the cause
abbrev pub cause_text : Task → List Instance → ℕ → (deed : List ℕ) → List ℕ
cause_text task steps number deed =
    codes ": " ++ ((codes "step " ++ (decimal number ++ (codes ", " ++ (step_name task steps number ++ codes ",")))) ++ deed)

-- how an atom became false
abbrev pub deleted_text : Task → List Instance → History → List ℕ
deleted_text task steps always = codes ": it was never true"
deleted_text task steps (by_step number) = cause_text task steps number (codes " deleted it")

-- how an atom with this text became true
abbrev pub added_text : Task → List Instance → (text : List ℕ) → History → List ℕ
added_text task steps text always = codes ": " ++ (text ++ codes " was true from the start")
added_text task steps text (by_step number) = cause_text task steps number (codes " added ") ++ text

-- how another kind of formula became false
abbrev pub made_text : Task → List Instance → History → List ℕ
made_text task steps always = []
made_text task steps (by_step number) = cause_text task steps number (codes " made it so")

-- how a negation became false
abbrev pub negation_text : Task → List Instance → (objects : List ℕ) → (part : Formula) → History → List ℕ
negation_text task steps objects (atom a) history = added_text task steps (formula_text task (scope_at objects []) (atom a)) history
negation_text task steps objects part history = made_text task steps history

-- how a formula became false, under this binding: which step deleted an atom, added one that should be false, or after which step
-- it was false otherwise
abbrev pub why_text : Task → List Instance → (objects : List ℕ) → Formula → History → List ℕ
why_text task steps objects (atom a) history = deleted_text task steps history
why_text task steps objects (not part) history = negation_text task steps objects part history
why_text task steps objects formula history = made_text task steps history

-- the line of a false part, with its history
abbrev pub reason_line : Task → List Instance → Part → History → List ℕ
reason_line task steps part history =
    formula_text task (scope_at part.objects part.names) part.formula
    ++ (codes " is false" ++ (why_text task steps part.objects part.formula history ++ codes ".\n"))

-- the line of each part, with the history at its index
abbrev pub reason_lines : Task → List Instance → List Part → List History → List ℕ
reason_lines task steps [] histories = []
reason_lines task steps (part ∷ parts) [] = []
reason_lines task steps (part ∷ parts) (history ∷ histories) = reason_line task steps part history ++ reason_lines task steps parts histories

-- and a line if there are more
abbrev pub reasons_text : Task → List Instance → Reasons → List ℕ
reasons_text task steps reasons =
    reason_lines task steps (map part_of reasons.parts.items) (map history_of reasons.histories.items)
    ++ (if reasons.more then codes "More conditions are false.\n" else [])

-- the action's cost increase has no value for these objects
abbrev pub increase_text : Task → (objects : List ℕ) → Increase → List ℕ
increase_text task objects (by_number number) = []
increase_text task objects (by_function f) = atom_text task (scope_at objects []) (function_name task f.predicate) f.terms ++ codes " has no value.\n"

abbrev pub instance_increase_text : Task → Instance → List ℕ
instance_increase_text task i = option_map_or (λ (s : Schema). increase_text task i.objects s.increase) (slice_get task.schemas i.schema) []

-- for the step with this number, counted from 1
abbrev pub lacking_text : Task → List Instance → ℕ → List ℕ
lacking_text task steps number = if number == 0 then [] else option_map_or (instance_increase_text task) (slice_get steps (number - 1)) []

-- why the step with this number is not applicable
abbrev pub step_reasons_text : Task → List Instance → ℕ → (lacks_cost : Bool) → Reasons → List ℕ
step_reasons_text task steps number lacks_cost reasons =
    reasons_text task steps reasons ++ (if lacks_cost then lacking_text task steps number else [])
