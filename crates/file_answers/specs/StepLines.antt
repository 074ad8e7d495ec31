-- What is said of the steps of a plan.
use Rattle.std.specs.Prelude.{Bool, true, false}
use Rattle.file_answers.specs.declared.explaining.step_lines.StepLines.{StepLines}
use Rattle.file_answers.specs.declared.explaining.step_lines.StepLines.TheVariants.{Costs, Trace}

-- whether it is said what each step adds and deletes
abbrev pub is_traced : StepLines → Bool
is_traced Costs = false
is_traced Trace = true
