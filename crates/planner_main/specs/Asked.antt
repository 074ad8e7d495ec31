-- How a result is printed, and which files are written: as the words ask, and as the code has it.
use Rattle.std.specs.Prelude.{Bool, false, List, ℕ, Option, None}
use Rattle.command_line.specs.Orders.{Request, to_solve, to_validate, to_check, to_explain, to_explain_cert}
use Rattle.command_line.specs.View.{text_in}
use Rattle.printed_answers.specs.Reported.{is_json}
use Rattle.planner_main.specs.declared.program.outputs.Outputs.{Outputs as Code}

-- whether standard output is JSON, and the files for the certificate and the plan, if any
pub record Outputs : Type 0 where
  pub json : Bool
  pub cert : Option (List ℕ)
  pub plan : Option (List ℕ)
  -- whether the name of a failing file is reported
  pub progress : Bool

-- the outputs that the words ask for
abbrev pub outputs_of : Request → Outputs
outputs_of (to_validate domain problem plan json) = record { json = json; cert = None; plan = None; progress = false }
outputs_of (to_solve domain problem asked) = record { json = asked.json; cert = asked.cert; plan = asked.plan; progress = asked.progress }
outputs_of (to_check domain problem cert asked) = record { json = asked.json; cert = None; plan = None; progress = false }
outputs_of (to_explain domain problem asked) = record { json = asked.json; cert = None; plan = None; progress = false }
outputs_of (to_explain_cert domain problem cert asked) = record { json = asked.json; cert = None; plan = None; progress = false }

-- the outputs in the code
abbrev pub outputs_in : Code → Outputs
outputs_in outputs = record { json = is_json outputs.format; cert = text_in outputs.cert; plan = text_in outputs.plan; progress = outputs.progress }
