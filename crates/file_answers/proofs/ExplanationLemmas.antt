-- The result for the files is the subject of the explanation, and the lines state it.
use Rattle.std.proofs.Common.{◌≡◌, ℕ, ◌<◌, ◌≤◌, ◌-◌, Bool, true, List, [], ◌∷◌, ◌++◌, get_or, length, map, Option, Some, None, IfSome, refl, ap, sym, ◌∙◌, subst, arith}
use Rattle.std.proofs.lemmas.Option.{slice_get_within}
use Rattle.std.specs.Prelude.{All, Result, Ok, Err, IfOk, IsSomeAnd}
use Rattle.std.specs.Option.{option_map, option_map_or}
use Rattle.std.specs.Str.Lossy.{utf8_lossy}
use Rattle.std.specs.String.{string_bytes}
use Rattle.faults.specs.declared.code.Code.{Code}
use Rattle.faults.specs.declared.refused.NoMemory.{NoMemory}
use Rattle.faults.specs.declared.refused.Span.{Span}
use Rattle.explain_hints.specs.declared.texts.File.{File}
use Rattle.explain_hints.specs.declared.texts.File.TheVariants as kind
use Rattle.explain_hints.specs.declared.texts.NamedText.{NamedText}
use Rattle.explain_hints.specs.declared.texts.NamedTexts.{NamedTexts}
use Rattle.validator.specs.Verdict.{verdict_of}
use Rattle.validator.specs.declared.verdict.Verdict.{Verdict}
use Rattle.validator.specs.declared.verdict.Verdict.TheVariants.{NotApplicable}
use Rattle.file_answers.specs.ExplanationLines.{Files, Named, IsLocated, IsSaidOf, IsStepLocated, IsSubjectLocated, SaySubject, IsPlanSaid, IsStepAt, IsReportedIn, IsWhole, SayFurther, SayPlanAs, SayVerdict, bytes_of, file_in, files_of, named_of}
use Rattle.file_answers.specs.Explanations.{IsFaultExplained, IsLocatedIf, IsOfFault, IsPlanReported, IsStepFound, IsStepOf, IsTaskExplained, IsTrueOf, IsVerdictExplained, files_in, in_texts, text_in}
use Rattle.file_answers.specs.Files.{reported_in}
use Rattle.file_answers.specs.Notes.{AreNoted, AreNotedOf}
use Rattle.explain_faults.specs.SameMistake.{Texts}
use Rattle.file_answers.specs.Complete.{IsComplete}
use Rattle.file_answers.specs.FurtherFaults.{IsFurtherOf}
use Rattle.file_answers.specs.declared.explanation.FurtherFault.{FurtherFault}
use Rattle.explain_hints.specs.Files.{name_in}
use Rattle.explain_hints.specs.Files.{text_in as bytes_in}
use Rattle.file_answers.specs.Inputs.{IsInputFault}
use Rattle.file_answers.specs.declared.explanation.Explanation.{Explanation}
use Rattle.file_answers.specs.declared.explanation.Location.{Location}
use Rattle.file_answers.specs.declared.explanation.Subject.{Subject}
use Rattle.file_answers.specs.declared.explanation.Subject.TheVariants.{Fault, Plan, Task}
use Rattle.file_answers.specs.declared.files.FileFault.{FileFault}
use Rattle.file_answers.specs.declared.files.FileFault.TheVariants as refused
use Rattle.model.specs.Task as model
use Rattle.model.specs.Meaning.{system_of}
use Rattle.model.specs.Runs as runs
use Rattle.model.specs.Runs.{IsVerdict}
use Rattle.model.specs.Files.{IsTaskOf}
use Rattle.model.specs.PlanText.{AllMean, AreSteps, IsPlanText, Step, placed_from}
use Rattle.model.specs.Words.{AreParts, Part}
use Rattle.explain_plans.specs.Explanations as plans
use Rattle.explain_plans.specs.Explanations.{IsExplained}
use Rattle.explain_plans.specs.StepPlaces.{IsStepPlace, span_of}
use Rattle.explain_plans.specs.Traces.{trace_text}
use Rattle.task.specs.VariableNames.{VariableNames}
use Rattle.file_answers.specs.QuantifiedNames.{IsNamedTask}
use Rattle.explain_plans.specs.declared.explanations.PlanExplanation.{PlanExplanation}

-- the files are among these texts
abbrev pub AreAmong : Files → NamedTexts → Type 0
AreAmong files texts = (file : File) → IfSome (file_in files file) (λ named. named ≡ in_texts texts file)

-- no further fault is reported
none_stated : (files : Files) (further : List FurtherFault) → further ≡ [] → All (IsReportedIn files) further
none_stated files further none = subst (All (IsReportedIn files)) (sym none) (λ k f below. absurd (omega (arith, below)))

-- ---- a fault

module _ (traced : Bool) (texts : NamedTexts) (files : Files) (among : AreAmong files texts) (same : bytes_in texts ≡ bytes_of files) where
  -- a fault reported for the texts is reported for the files
  told_in : (f : FurtherFault) → IsFurtherOf texts.domain.text.now texts.problem.text.now (name_in texts f.fault.file) (bytes_in texts f.fault.file) f → IsReportedIn files f
  told_in f stated = by_file (file_in files f.fault.file) (among f.fault.file)
    where
      of_files : (named : Named) → named ≡ in_texts texts f.fault.file → IsFurtherOf files.domain.text files.problem.text named.name named.text f
      of_files named same =
          let domain : files.domain ≡ in_texts texts kind.Domain = among kind.Domain in
          let problem : files.problem ≡ in_texts texts kind.Problem = among kind.Problem in
          subst (λ (n : Named). IsFurtherOf files.domain.text files.problem.text n.name n.text f) (sym same)
          (subst (λ (d : Named). IsFurtherOf d.text files.problem.text (name_in texts f.fault.file) (bytes_in texts f.fault.file) f) (sym domain)
          (subst (λ (p : Named). IsFurtherOf texts.domain.text.now p.text (name_in texts f.fault.file) (bytes_in texts f.fault.file) f) (sym problem) stated))

      by_file : (o : Option Named) → IfSome o (λ named. named ≡ in_texts texts f.fault.file) → IfSome o (λ named. IsFurtherOf files.domain.text files.problem.text named.name named.text f)
      by_file None same = tt
      by_file (Some named) same = of_files named same

  module _ (file : File) (code : Code) (span : Span) (e : Explanation) (is : IsFaultExplained texts file code span e) where
    located : (named : Option Named) → IfSome named (λ named. named ≡ in_texts texts file) → IfSome named (λ named. IsSomeAnd e.location (IsLocated named span))
    located None same = tt
    located (Some named) same = subst (λ (named : Named). IsSomeAnd e.location (IsLocated named span)) (sym same) is.located

    text_of : (named : Option Named) → IfSome named (λ named. named ≡ in_texts texts file) → IfSome named (λ named. bytes_in texts file ≡ named.text)
    text_of None same = tt
    text_of (Some named) same = ap (λ (named : Named). named.text) (sym same)

    fault_said : IsSaidOf traced files e
    fault_said = record {
      located = subst (λ (s : Subject). IsSubjectLocated files s e.location) (sym is.subject) (located (file_in files file) (among file));
      lines = subst (λ (s : Subject). SaySubject traced files s e.location (map string_bytes e.notes.items) (string_bytes e.text)) (sym is.subject)
          (bytes_in texts file, text_of (file_in files file) (among file), is.says);
      further = λ k f below. told_in (get_or e.further.items k f) (is.further k f below);
      further_lines = subst (λ (s : Subject). SayFurther s e.further.items (string_bytes e.text)) (sym is.subject) is.says_further;
      whole = subst (λ (s : Subject). IsWhole files s e.further.items) (sym is.subject)
          (subst (λ (text_of : Texts). IsComplete text_of (record { file = file; code = code; span = span }) e.further.items) same is.complete);
    }

  of_fault_said : (fault : FileFault) (e : Explanation) → IsOfFault texts fault e → IsSaidOf traced files e
  of_fault_said (refused.At file code span) e is = fault_said file code span e is
  of_fault_said refused.NoMemory e is = absurd is

  pub refused_said : (fault : FileFault) (r : Result Explanation NoMemory) → IfOk r (IsOfFault texts fault) → IfOk r (IsSaidOf traced files)
  refused_said fault (Ok e) is = of_fault_said fault e is
  refused_said fault (Err failed) is = tt

module _ (domain problem : List ℕ) (plan : Option (List ℕ)) (most : ℕ) (texts : NamedTexts) where
  fault_true : (fault : FileFault) (e : Explanation) → IfSome (reported_in fault) (IsInputFault domain problem plan)
      → IsOfFault texts fault e → IsTrueOf domain problem plan most e.subject
  fault_true (refused.At file code span) e reported is = subst (IsTrueOf domain problem plan most) (sym is.subject) reported
  fault_true refused.NoMemory e reported is = absurd is

  pub refused_explained : (fault : FileFault) (r : Result Explanation NoMemory) → IfSome (reported_in fault) (IsInputFault domain problem plan)
      → IfOk r (IsOfFault texts fault) → IfOk r (λ e. IsTrueOf domain problem plan most e.subject)
  refused_explained fault (Ok e) reported is = fault_true fault e reported is
  refused_explained fault (Err failed) reported is = tt

-- the bytes of the files with these texts are theirs
bytes_each : (texts : NamedTexts) (file : File) → bytes_in texts file ≡ bytes_of (files_in texts) file
bytes_each texts kind.Domain = refl
bytes_each texts kind.Problem = refl
bytes_each texts kind.Plan = refl

pub bytes_all : (texts : NamedTexts) → bytes_in texts ≡ bytes_of (files_in texts)
bytes_all texts = λ i. λ file. bytes_each texts file i

-- each text is among them
pub all_among : (texts : NamedTexts) → AreAmong (files_in texts) texts
all_among texts kind.Domain = refl
all_among texts kind.Problem = refl
all_among texts kind.Plan = refl

-- the bytes of the given files are those of the texts made from them, where the text of a plan that is not given is empty
module _ (texts : NamedTexts) (domain problem : NamedText) (plan : Option NamedText) (same_domain : texts.domain ≡ domain) (same_problem : texts.problem ≡ problem)
    (same_plan : texts.plan.text.now ≡ option_map_or (λ (named : NamedText). named.text.now) plan []) where
  given_plan : (o : Option NamedText) → option_map_or (λ (named : NamedText). named.text.now) o [] ≡ option_map_or (λ (named : Named). named.text) (option_map named_of o) []
  given_plan None = refl
  given_plan (Some named) = refl

  given_each : (file : File) → bytes_in texts file ≡ bytes_of (files_of domain problem plan) file
  given_each kind.Domain = ap (λ (named : NamedText). named.text.now) same_domain
  given_each kind.Problem = ap (λ (named : NamedText). named.text.now) same_problem
  given_each kind.Plan = same_plan ∙ given_plan plan

  pub given_bytes : bytes_in texts ≡ bytes_of (files_of domain problem plan)
  given_bytes = λ i. λ file. given_each file i

-- the given files are among the texts made from them
module _ (texts : NamedTexts) (domain problem : NamedText) (same_domain : texts.domain ≡ domain) (same_problem : texts.problem ≡ problem) where
  plan_among : (plan : Option NamedText) → IfSome plan (λ named. texts.plan ≡ named)
      → IfSome (option_map named_of plan) (λ named. named ≡ in_texts texts kind.Plan)
  plan_among None same = tt
  plan_among (Some plan) same = sym (ap named_of same)

  pub given_among : (plan : Option NamedText) → IfSome plan (λ named. texts.plan ≡ named) → AreAmong (files_of domain problem plan) texts
  given_among plan same kind.Domain = sym (ap named_of same_domain)
  given_among plan same kind.Problem = sym (ap named_of same_problem)
  given_among plan same kind.Plan = plan_among plan same

  -- with a plan they are these texts
  pub files_given : (plan : Option NamedText) (named : NamedText) → plan ≡ Some named → IfSome plan (λ named. texts.plan ≡ named)
      → files_in texts ≡ files_of domain problem plan
  files_given plan named is same =
      let same_plan : texts.plan ≡ named = subst (λ (plan : Option NamedText). IfSome plan (λ named. texts.plan ≡ named)) is same in
      ap (λ (d : NamedText). files_of d texts.problem (Some texts.plan)) same_domain
      ∙ (ap (λ (p : NamedText). files_of domain p (Some texts.plan)) same_problem
      ∙ (ap (λ (n : NamedText). files_of domain problem (Some n)) same_plan
      ∙ ap (λ (l : Option NamedText). files_of domain problem l) (sym is)))

  -- their task is that of these texts
  pub task_given : (task : model.Task) (names : VariableNames) → IsNamedTask domain.text.now problem.text.now task names
      → IsNamedTask texts.domain.text.now texts.problem.text.now task names
  task_given task names is =
      subst (λ (p : NamedText). IsNamedTask texts.domain.text.now p.text.now task names) (sym same_problem)
      (subst (λ (d : NamedText). IsNamedTask d.text.now problem.text.now task names) (sym same_domain) is)

  -- and the plan's text is among them
  pub plan_given : (plan : Option NamedText) (named : NamedText) → plan ≡ Some named → IfSome plan (λ named. texts.plan ≡ named)
      → Some texts.plan.text.now ≡ text_in plan
  plan_given plan named is same =
      let same_plan : texts.plan ≡ named = subst (λ (plan : Option NamedText). IfSome plan (λ named. texts.plan ≡ named)) is same in
      ap (λ (n : NamedText). Some n.text.now) same_plan ∙ sym (ap text_in is)

-- ---- the verdict on a plan

-- with a trace before the verdict
pub traced_said : (at : Option Location) (task : model.Task) (steps : List model.Instance) (explained : PlanExplanation) (trace verdict shown text : List ℕ)
    → trace ≡ utf8_lossy (trace_text task steps) → SayVerdict at task steps explained verdict → shown ≡ verdict → text ≡ trace ++ shown
    → SayPlanAs true at task steps explained text
traced_said at task steps explained trace verdict shown text is_trace says same is =
    (verdict, is ∙ (λ i. is_trace i ++ same i), says)

-- each step of a text names one instance: the two lists have the same length
all_mean_length : (task : model.Task) (steps : List Step) (plan : List model.Instance) → AllMean task steps plan → length steps ≡ length plan
all_mean_length task [] [] mean = refl
all_mean_length task [] (i ∷ plan) mean = absurd mean
all_mean_length task (step ∷ steps) [] mean = absurd mean
all_mean_length task (step ∷ steps) (i ∷ plan) mean = let rest = all_mean_length task steps plan mean.1 in cc

-- an inapplicable step is a step of the text
pub step_of_text : (task : model.Task) (text : List ℕ) (plan : List model.Instance) (verdict : runs.Verdict) → IsPlanText task text plan
    → IsVerdict (system_of task) plan verdict → IsStepOf text verdict
step_of_text task text plan (runs.valid cost) is_plan is = tt
step_of_text task text plan (runs.not_applicable n) (steps, has, mean) is =
    let many : length steps ≡ length plan = all_mean_length task steps plan mean in
    let within : n - 1 < length plan = slice_get_within plan (n - 1) is.next is.found_there in
    let from_one : 1 ≤ n = is.counted_from_one in
    (steps, has, from_one, omega arith)
step_of_text task text plan runs.goal_missed is_plan is = tt

-- the span found for it is its span
found_at : (text : List ℕ) (step : ℕ) (parts : List Part) → AreParts text parts → (found : Option Span)
    → IsSomeAnd found (λ span. IsStepPlace (placed_from 0 parts) step (span_of span)) → IsSomeAnd found (IsStepAt text step)
found_at text step parts cut None is = absurd is
found_at text step parts cut (Some span) is = (parts, cut, is)

pub step_found : (text : List ℕ) (verdict : Verdict) (step : ℕ) (found : Option Span) → verdict ≡ NotApplicable step → IsStepOf text (verdict_of verdict)
    → ((parts : List Part) (steps : List Step) → AreParts text parts → AreSteps (placed_from 0 parts) steps → 1 ≤ step → step ≤ length steps
    → IsSomeAnd found (λ span. IsStepPlace (placed_from 0 parts) step (span_of span)))
    → IsStepFound text (verdict_of verdict) found
step_found text verdict step found is within placed =
    let here : IsStepOf text (runs.not_applicable step) = subst (λ (v : Verdict). IsStepOf text (verdict_of v)) is within in
    subst (λ (v : Verdict). IsStepFound text (verdict_of v) found) (sym is)
    (found_at text step here.1.parts here.1.cut found (placed here.1.parts here.0 here.1.cut here.1.steps_of_parts here.2 here.3))

-- and the location is that of the span
pub step_located : (file : Named) (verdict : runs.Verdict) (found : Option Span) (at : Option Location) → IsStepFound file.text verdict found
    → IsLocatedIf file found at → IsStepLocated file verdict at
step_located file (runs.valid cost) found at is located = tt
step_located file (runs.not_applicable step) None at is located = absurd is
step_located file (runs.not_applicable step) (Some span) at is located = (span, is, located)
step_located file runs.goal_missed found at is located = tt

module _ (task : model.Task) (names : VariableNames) (steps : List model.Instance) where
  -- what is reported of the subject is true if the subject is
  pub explained_reported : (traced : Bool) (file : Named) (explained : PlanExplanation) → IsVerdict (system_of task) steps (plans.verdict_of explained)
      → IsExplained task names steps explained → (r : Result Explanation NoMemory) → IfOk r (IsPlanReported task steps traced file explained)
      → IfOk r (IsVerdictExplained task names steps traced file)
  explained_reported traced file explained is_true is_explained (Ok e) stated = (explained, is_true, is_explained, stated)
  explained_reported traced file explained is_true is_explained (Err failed) stated = tt

  module _ (traced : Bool) (texts : NamedTexts) (is : IsNamedTask texts.domain.text.now texts.problem.text.now task names) (is_plan : IsPlanText task texts.plan.text.now steps) where
    plan_said : (explained : PlanExplanation) (e : Explanation) → IsExplained task names steps explained → (stated : IsPlanReported task steps traced (named_of texts.plan) explained e)
        → IsPlanSaid traced (files_in texts) texts.plan.text.now (verdict_of stated.code) e.location (string_bytes e.text)
    plan_said explained e is_explained stated = record {
      task = task;
      steps = steps;
      are_read = record { is_task = is.is_task; is_plan = is_plan };
      explained = explained;
      is_explained = subst (λ (those : VariableNames). IsExplained task those steps explained) is.are_names is_explained;
      same = sym stated.same;
      says = stated.says;
    }

    verdict_said : (e : Explanation) → IsVerdictExplained task names steps traced (named_of texts.plan) e → IsSaidOf traced (files_in texts) e
    verdict_said e (explained, is_true, is_explained, stated) = record {
      located = subst (λ (s : Subject). IsSubjectLocated (files_in texts) s e.location) (sym stated.subject)
          (subst (λ (v : runs.Verdict). IsStepLocated (named_of texts.plan) v e.location) (sym stated.same) stated.located);
      lines = subst (λ (s : Subject). SaySubject traced (files_in texts) s e.location (map string_bytes e.notes.items) (string_bytes e.text)) (sym stated.subject)
          (plan_said explained e is_explained stated);
      further = none_stated (files_in texts) e.further.items stated.no_further;
      further_lines = subst (λ (s : Subject). SayFurther s e.further.items (string_bytes e.text)) (sym stated.subject) stated.no_further;
      whole = subst (λ (s : Subject). IsWhole (files_in texts) s e.further.items) (sym stated.subject) tt;
    }

    pub steps_said : (r : Result Explanation NoMemory) → IfOk r (IsVerdictExplained task names steps traced (named_of texts.plan)) → IfOk r (IsSaidOf traced (files_in texts))
    steps_said (Ok e) explained = verdict_said e explained
    steps_said (Err failed) explained = tt

  module _ (domain problem : List ℕ) (is_task : IsTaskOf domain problem task) (most : ℕ) (text : List ℕ) (is_plan : IsPlanText task text steps) where
    verdict_true : (traced : Bool) (file : Named) (e : Explanation) → IsVerdictExplained task names steps traced file e → IsTrueOf domain problem (Some text) most e.subject
    verdict_true traced file e (explained, is_true, is_explained, stated) = subst (IsTrueOf domain problem (Some text) most) (sym stated.subject)
        (record {
          task = task;
          steps = steps;
          are_read = record { is_task = is_task; is_plan = is_plan };
          is_true = subst (IsVerdict (system_of task) steps) (sym stated.same) is_true;
        })

    pub steps_explained : (traced : Bool) (file : Named) (r : Result Explanation NoMemory) → IfOk r (IsVerdictExplained task names steps traced file)
        → IfOk r (λ e. IsTrueOf domain problem (Some text) most e.subject)
    steps_explained traced file (Ok e) is = verdict_true traced file e is
    steps_explained traced file (Err failed) is = tt

-- ---- a task

module _ (task : model.Task) (most : ℕ) where
  summary_said : (traced : Bool) (files : Files) (e : Explanation) → IsTaskExplained task most e → IsSaidOf traced files e
  summary_said traced files e is = record {
    located = subst (λ (s : Subject). IsSubjectLocated files s e.location) (sym is.subject) tt;
    lines = subst (λ (s : Subject). SaySubject traced files s e.location (map string_bytes e.notes.items) (string_bytes e.text)) (sym is.subject) is.says;
    further = none_stated files e.further.items is.no_further;
    further_lines = subst (λ (s : Subject). SayFurther s e.further.items (string_bytes e.text)) (sym is.subject) is.no_further;
    whole = subst (λ (s : Subject). IsWhole files s e.further.items) (sym is.subject) tt;
  }

  pub task_said : (traced : Bool) (files : Files) (r : Result Explanation NoMemory) → IfOk r (IsTaskExplained task most) → IfOk r (IsSaidOf traced files)
  task_said traced files (Ok e) is = summary_said traced files e is
  task_said traced files (Err failed) is = tt

  module _ (domain problem : List ℕ) (is_task : IsTaskOf domain problem task) where
    summary_true : (e : Explanation) → IsTaskExplained task most e → IsTrueOf domain problem None most e.subject
    summary_true e is = subst (IsTrueOf domain problem None most) (sym is.subject) (task, is_task, is.is_held)

    -- if no plan is given
    pub task_explained : (plan : Option (List ℕ)) → plan ≡ None → (r : Result Explanation NoMemory)
        → IfOk r (IsTaskExplained task most) → IfOk r (λ e. IsTrueOf domain problem plan most e.subject)
    task_explained plan none (Ok e) is = subst (λ (plan : Option (List ℕ)). IsTrueOf domain problem plan most e.subject) (sym none) (summary_true e is)
    task_explained plan none (Err failed) is = tt

-- ---- notes

-- with a plan nothing is noted
pub noted_with_plan : (domain problem text : List ℕ) (most : ℕ) (s : Subject) → IsTrueOf domain problem (Some text) most s → (notes : List (List ℕ)) → AreNotedOf domain problem most s notes
noted_with_plan domain problem text most (Fault file code span) is notes = tt
noted_with_plan domain problem text most (Plan verdict) is notes = tt
noted_with_plan domain problem text most (Task holds grounded) is notes = absurd is

pub noted_of_task : (domain problem : List ℕ) (most : ℕ) (task : model.Task) → IsTaskOf domain problem task → (e : Explanation) → IsTaskExplained task most e → AreNoted domain problem most e
noted_of_task domain problem most task is_task e is =
    subst (λ (s : Subject). AreNotedOf domain problem most s (map string_bytes e.notes.items)) (sym is.subject) (task, is_task, is.noted)
