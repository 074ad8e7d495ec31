use Rattle.std.proofs.Common.{Option, ℕ, List, ap, map, subst}
use Rattle.std.proofs.lemmas.Result.{IfOk-weaker}
use Rattle.std.specs.String.{string_bytes}
use Rattle.std.specs.Prelude.{IfOk}
use Rattle.task.specs.Task.{task_of, variable_names_of}
use Rattle.file_answers.specs.Files.{reported_in}
use Rattle.file_answers.proofs.FilesRead.{task_input}
use Rattle.file_answers.specs.ExplanationLines.{Files, IsSaidOf, files_of}
use Rattle.file_answers.specs.Explanations.{IsTrueOf, text_in}
use Rattle.file_answers.specs.StepLines.{is_traced}
use Rattle.file_answers.proofs.ExplanationLemmas.{files_given, given_among, given_bytes, noted_of_task, noted_with_plan, plan_given, refused_explained, refused_said, task_explained, task_given, task_said}
use Rattle.file_answers.proofs.explaining.explain_files.Goals as goal

pub returns-in-Err-clause-subject : goal.returns-in-Err-clause-subject
returns-in-Err-clause-subject c =
    let domain = c.args.files.domain.text.now in
    let problem = c.args.files.problem.text.now in
    refused_explained domain problem (text_in c.args.files.plan) c.args.options.max_instances c.texts_of-texts.result c.in-Err.fault c.explain_refused.result
    (task_input domain problem (text_in c.args.files.plan) (reported_in c.in-Err.fault) c.in-Err.ensures.refused) c.explain_refused.ensures

pub returns-in-Err-clause-said : goal.returns-in-Err-clause-said
returns-in-Err-clause-said c =
    let texts = c.texts_of-texts in
    refused_said (is_traced c.args.options.steps) texts.result (files_of c.args.files.domain c.args.files.problem c.args.files.plan)
    (given_among texts.result c.args.files.domain c.args.files.problem texts.ensures.domain texts.ensures.problem c.args.files.plan texts.ensures.plan)
    (given_bytes texts.result c.args.files.domain c.args.files.problem c.args.files.plan texts.ensures.domain texts.ensures.problem texts.ensures.text)
    c.in-Err.fault c.explain_refused.result c.explain_refused.ensures

pub returns-in-Some-clause-subject : goal.returns-in-Some-clause-subject
returns-in-Some-clause-subject c =
    let texts = c.texts_of-texts in
    subst (λ (plan : Option (List ℕ)). IfOk c.explain_plan_file.result (λ e. IsTrueOf c.args.files.domain.text.now c.args.files.problem.text.now plan c.args.options.max_instances e.subject))
    (plan_given texts.result c.args.files.domain c.args.files.problem texts.ensures.domain texts.ensures.problem c.args.files.plan _ c.in-Some.is texts.ensures.plan)
    (c.explain_plan_file.ensures.subject c.args.files.domain.text.now c.args.files.problem.text.now c.args.options.max_instances c.in-Ok.ensures.task)

pub returns-in-Some-clause-said : goal.returns-in-Some-clause-said
returns-in-Some-clause-said c =
    let texts = c.texts_of-texts in
    subst (λ (files : Files). IfOk c.explain_plan_file.result (IsSaidOf (is_traced c.args.options.steps) files))
    (files_given texts.result c.args.files.domain c.args.files.problem texts.ensures.domain texts.ensures.problem c.args.files.plan _ c.in-Some.is texts.ensures.plan)
    (c.explain_plan_file.ensures.said
    (task_given texts.result c.args.files.domain c.args.files.problem texts.ensures.domain texts.ensures.problem (task_of c.in-Ok.task) (variable_names_of c.in-Ok.task) c.in-Ok.ensures.names))

pub returns-clause-subject : goal.returns-clause-subject
returns-clause-subject c =
    task_explained (task_of c.in-Ok.task) c.args.options.max_instances c.args.files.domain.text.now c.args.files.problem.text.now c.in-Ok.ensures.task (text_in c.args.files.plan) (ap text_in c.in-None.is)
    c.explain_task.result c.explain_task.ensures

pub returns-clause-said : goal.returns-clause-said
returns-clause-said c =
    task_said (task_of c.in-Ok.task) c.args.options.max_instances (is_traced c.args.options.steps) (files_of c.args.files.domain c.args.files.problem c.args.files.plan) c.explain_task.result c.explain_task.ensures

pub returns-in-Some-clause-noted : goal.returns-in-Some-clause-noted
returns-in-Some-clause-noted c =
    let texts = c.texts_of-texts in
    let named = c.in-Some.field-0 in
    IfOk-weaker c.explain_plan_file.result _ _
    (λ e is. noted_with_plan c.args.files.domain.text.now c.args.files.problem.text.now _ c.args.options.max_instances e.subject is (map string_bytes e.notes.items))
    (c.explain_plan_file.ensures.subject c.args.files.domain.text.now c.args.files.problem.text.now c.args.options.max_instances c.in-Ok.ensures.task)

pub returns-clause-noted : goal.returns-clause-noted
returns-clause-noted c =
    IfOk-weaker c.explain_task.result _ _
    (λ e is. noted_of_task c.args.files.domain.text.now c.args.files.problem.text.now c.args.options.max_instances (task_of c.in-Ok.task) c.in-Ok.ensures.task e is)
    c.explain_task.ensures
