use Rattle.std.specs.Prelude.{Some}
use Rattle.formulas.specs.State.{plan_of}
use Rattle.task.specs.Task.{task_of, variable_names_of}
use Rattle.file_answers.specs.ExplanationLines.{named_of}
use Rattle.file_answers.specs.Explanations.{files_in}
use Rattle.file_answers.specs.StepLines.{is_traced}
use Rattle.file_answers.proofs.ExplanationLemmas.{all_among, bytes_all, refused_explained, refused_said, steps_explained, steps_said}
use Rattle.file_answers.proofs.explaining.of_plan.explain_plan_file.Goals as goal

pub returns-in-Err-clause-subject : goal.returns-in-Err-clause-subject
returns-in-Err-clause-subject c = λ domain problem most is.
    refused_explained domain problem (Some c.args.texts.now.plan.text.now) most c.args.texts.now c.in-Err.fault c.explain_refused.result (c.in-Err.ensures.refused domain problem is) c.explain_refused.ensures

pub returns-in-Err-clause-said : goal.returns-in-Err-clause-said
returns-in-Err-clause-said c = λ is.
    refused_said (is_traced c.args.lines) c.args.texts.now (files_in c.args.texts.now) (all_among c.args.texts.now) (bytes_all c.args.texts.now) c.in-Err.fault c.explain_refused.result c.explain_refused.ensures

pub returns-in-Ok-clause-subject : goal.returns-in-Ok-clause-subject
returns-in-Ok-clause-subject c = λ domain problem most is.
    steps_explained (task_of c.args.task.now) (variable_names_of c.args.task.now) (plan_of c.in-Ok.plan) domain problem is most c.args.texts.now.plan.text.now c.in-Ok.ensures.plan
    (is_traced c.args.lines) (named_of c.args.texts.now.plan) c.explain_steps.result c.explain_steps.ensures

pub returns-in-Ok-clause-said : goal.returns-in-Ok-clause-said
returns-in-Ok-clause-said c = λ is.
    steps_said (task_of c.args.task.now) (variable_names_of c.args.task.now) (plan_of c.in-Ok.plan) (is_traced c.args.lines) c.args.texts.now is c.in-Ok.ensures.plan c.explain_steps.result c.explain_steps.ensures
