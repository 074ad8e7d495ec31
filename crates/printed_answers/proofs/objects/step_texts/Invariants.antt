use Rattle.std.proofs.Common.{◌≡◌, map, take}
use Rattle.std.specs.String.{string_bytes}
use Rattle.task.specs.Task.{task_of}
use Rattle.formulas.specs.State.{instance_of}
use Rattle.model.specs.PlanWriting.{step_text}
use Rattle.printed_answers.proofs.objects.step_texts.Given as goal

-- the texts of the steps so far
abbrev pub invariant-steps : goal.invariant-steps
invariant-steps l = map string_bytes l.texts.items ≡ map (step_text (task_of l.task)) (map instance_of (take l.step-index l.step-items))
