use Rattle.std.proofs.Common.{◌≡◌, rules, sym, ◌∙◌, subst}
use Rattle.std.specs.Str.{IsUtf8}
use Rattle.std.proofs.lemmas.Str.{IsUtf8-from_ascii}
use Rattle.task.specs.Task.{task_of}
use Rattle.formulas.specs.State.{instance_of}
use Rattle.model.specs.PlanWriting.{step_text}
use Rattle.plan_file.proofs.WritingLemmas.{step_ascii}
use Rattle.plan_file.proofs.writer.step_text.Goals as goal

pub returns-clause-names : goal.returns-clause-names
returns-clause-names c = λ named.
    let task = task_of c.args.task.now in
    let step = instance_of c.args.step.now in
    let bytes : c.as_slice.result.now ≡ step_text task step = search rules in
    c.in_ok-from_utf8_lossy.ensures.ok (subst IsUtf8 (sym bytes) (IsUtf8-from_ascii (step_text task step) (step_ascii task step named))) ∙ bytes
