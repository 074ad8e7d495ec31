-- What the lines of an explanation say about its subject, and what its location is.
use Rattle.std.specs.Prelude.{◌≡◌, ℕ, ◌-◌, Bool, true, false, List, [], ◌++◌, codes, flat_map, map, unwrap_or, All, Option, Some, IfSome, IsSomeAnd}
use Rattle.std.specs.Fmt.{decimal}
use Rattle.std.specs.Option.{option_map, option_map_or}
use Rattle.std.specs.Str.Lossy.{utf8_lossy}
use Rattle.std.specs.String.{string_bytes}
use Rattle.faults.specs.declared.code.Code.{Code}
use Rattle.faults.specs.declared.refused.Span.{Span}
use Rattle.explain_hints.specs.Places.{IsPlace}
use Rattle.explain_hints.specs.declared.place.LineColumn.{LineColumn}
use Rattle.explain_hints.specs.declared.texts.NamedText.{NamedText}
use Rattle.explain_hints.specs.declared.texts.File.{File}
use Rattle.explain_hints.specs.declared.texts.File.TheVariants as file
use Rattle.explain_faults.specs.Explained.{BeginsWith, IsHeading}
use Rattle.explain_plans.specs.Explanations.{IsExplained}
use Rattle.explain_plans.specs.Explanations.{verdict_of as explained_verdict}
use Rattle.explain_plans.specs.PlanLines.{cost_lines, reasons_text, step_reasons_text, verdict_line}
use Rattle.explain_plans.specs.Traces.{trace_text}
use Rattle.explain_tasks.specs.Summary.{summary_text}
use Rattle.explain_plans.specs.StepPlaces.{IsStepPlace, span_of}
use Rattle.explain_plans.specs.declared.explanations.PlanExplanation.{PlanExplanation}
use Rattle.explain_plans.specs.declared.explanations.PlanExplanation.TheVariants.{Solves, NotApplicable, GoalMissed}
use Rattle.grounding_instances.specs.declared.fault.GroundLimit.TheVariants as limit
use Rattle.validator.specs.Verdict.{verdict_of}
use Rattle.file_answers.specs.declared.explanation.Explanation.{Explanation}
use Rattle.explain_faults.specs.SameMistake.{Texts}
use Rattle.file_answers.specs.Complete.{IsComplete}
use Rattle.file_answers.specs.FurtherFaults.{EndsWith, IsFurtherOf, further_text}
use Rattle.file_answers.specs.declared.explanation.FurtherFault.{FurtherFault}
use Rattle.file_answers.specs.declared.explanation.Location.{Location}
use Rattle.file_answers.specs.declared.explanation.Subject.{Subject}
use Rattle.file_answers.specs.declared.explanation.Subject.TheVariants.{Fault, Plan, Task}
use Rattle.file_answers.specs.declared.explanation.Grounded.{Grounded}
use Rattle.file_answers.specs.declared.explanation.Grounded.TheVariants.{Within, Beyond}
use Rattle.typing.specs.Task.{variable_names}
use Rattle.model.specs.Task as model
use Rattle.model.specs.Files.{AreRead}
use Rattle.model.specs.PlanText.{placed_from}
use Rattle.model.specs.Runs.{Verdict, valid, not_applicable, goal_missed}
use Rattle.model.specs.Words.{AreParts, Part}

-- a file: its name, as given, and its text
pub record Named : Type 0 where
  pub name : List ℕ
  pub text : List ℕ

-- the files of a domain, of a problem, and of a plan, if one is given
pub record Files : Type 0 where
  pub domain : Named
  pub problem : Named
  pub plan : Option Named

abbrev pub named_of : NamedText → Named
named_of named = record { name = named.name.now; text = named.text.now }

abbrev pub files_of : (domain problem : NamedText) → (plan : Option NamedText) → Files
files_of domain problem plan = record { domain = named_of domain; problem = named_of problem; plan = option_map named_of plan }

-- the file with this name and this text, if there is one
abbrev pub named_as : (name text : Option (List ℕ)) → Option Named
named_as name = option_map (λ (text : List ℕ). record { name = unwrap_or name []; text = text })

abbrev pub file_in : Files → File → Option Named
file_in files file.Domain = Some files.domain
file_in files file.Problem = Some files.problem
file_in files file.Plan = files.plan

-- ---- locations

abbrev pub place_in : Location → LineColumn
place_in at = record { line = at.line; column = at.column }

-- the location is that of this span of the file: its name, the place of the span's first byte, and the span's length
pub record IsLocated (file : Named) (span : Span) (at : Location) : Type 0 where
  pub name : string_bytes at.file ≡ file.name
  pub place : IsPlace file.text span.start (place_in at)
  pub length : at.length ≡ span.end - span.start

-- the span is that of the step with this number, counted from 1, from its `(` to its `)`
abbrev pub IsStepAt : (text : List ℕ) → (step : ℕ) → Span → Type 0
IsStepAt text step span = (parts : List Part) × AreParts text parts × IsStepPlace (placed_from 0 parts) step (span_of span)

-- for an inapplicable step the location is that of its span
abbrev pub IsStepLocated : Named → Verdict → Option Location → Type 0
IsStepLocated file (valid cost) at = Unit {0}
IsStepLocated file (not_applicable step) at = (span : Span) × IsStepAt file.text step span × IsSomeAnd at (IsLocated file span)
IsStepLocated file goal_missed at = Unit {0}

-- for a fault it is that of its span
abbrev pub IsSubjectLocated : Files → Subject → Option Location → Type 0
IsSubjectLocated files (Fault file code span) at = IfSome (file_in files file) (λ named. IsSomeAnd at (IsLocated named span))
IsSubjectLocated files (Plan verdict) at = IfSome files.plan (λ named. IsStepLocated named (verdict_of verdict) at)
IsSubjectLocated files (Task holds grounded) at = Unit {0}

-- ---- lines

-- what comes before an inapplicable step: the file, the line and the column
abbrev pub place_text : Location → List ℕ
place_text at = string_bytes at.file ++ (codes ":" ++ (decimal at.line ++ (codes ":" ++ (decimal at.column ++ codes ": "))))

-- The lines for these steps of the task, with this explanation. For a plan that solves the task they are a line for each step, with what
-- it costs, and the line of the whole cost. For an inapplicable step they are its place, its line, the line of the file with marks, and
-- the reasons; for a missed goal they are its line and the reasons.
abbrev pub SayPlan : Option Location → model.Task → List model.Instance → PlanExplanation → (lines : List ℕ) → Type 0
SayPlan at task steps (Solves costs total) lines = lines ≡ utf8_lossy (cost_lines task 0 0 steps costs.items) ++ verdict_line task steps (valid total)
SayPlan at task steps (NotApplicable step lacks_cost reasons) lines =
    IfSome at (λ at. (marks : List ℕ) × (lines ≡ place_text at ++ (verdict_line task steps (not_applicable step)
    ++ (marks ++ utf8_lossy (step_reasons_text task steps step lacks_cost reasons)))))
SayPlan at task steps (GoalMissed reasons) lines = lines ≡ verdict_line task steps goal_missed ++ utf8_lossy (reasons_text task steps reasons)

-- the same without the lines of the steps of a plan that solves the task
abbrev pub SayVerdict : Option Location → model.Task → List model.Instance → PlanExplanation → (lines : List ℕ) → Type 0
SayVerdict at task steps (Solves costs total) lines = lines ≡ verdict_line task steps (valid total)
SayVerdict at task steps (NotApplicable step lacks_cost reasons) lines = SayPlan at task steps (NotApplicable step lacks_cost reasons) lines
SayVerdict at task steps (GoalMissed reasons) lines = SayPlan at task steps (GoalMissed reasons) lines

-- The lines as asked for. With a trace they begin with what each step costs, adds and deletes, up to the first that is not applicable,
-- whether or not the plan solves the task.
abbrev pub SayPlanAs : (traced : Bool) → Option Location → model.Task → List model.Instance → PlanExplanation → (lines : List ℕ) → Type 0
SayPlanAs false at task steps explained lines = SayPlan at task steps explained lines
SayPlanAs true at task steps explained lines =
    (rest : List ℕ) × (lines ≡ utf8_lossy (trace_text task steps) ++ rest) × SayVerdict at task steps explained rest

-- The lines are those for the plan in this text: its steps, the verdict, and the reasons. Quantified variables have their names
-- from the files.
pub record IsPlanSaid (traced : Bool) (files : Files) (text : List ℕ) (verdict : Verdict) (at : Option Location) (lines : List ℕ) : Type 0 where
  pub task : model.Task
  pub steps : List model.Instance
  pub are_read : AreRead files.domain.text files.problem.text text task steps
  pub explained : PlanExplanation
  pub is_explained : IsExplained task (variable_names are_read.is_task.domain_tree are_read.is_task.problem_tree) steps explained
  pub same : explained_verdict explained ≡ verdict
  pub says : SayPlanAs traced at task steps explained lines

-- the line for the outcome of grounding
abbrev pub grounded_line : Grounded → List ℕ
grounded_line (Within instances atoms) =
    codes "instances kept " ++ (decimal instances ++ (codes ", atoms numbered " ++ (decimal atoms ++ codes "\n")))
grounded_line (Beyond limit.Instances) = codes "unknown instances\n"
grounded_line (Beyond limit.Atoms) = codes "unknown atoms\n"

-- each text on a line
abbrev pub on_lines : List (List ℕ) → List ℕ
on_lines = flat_map (λ (text : List ℕ). text ++ codes "\n")

-- the lines begin with the first line of the report of a fault at this span of a text, for this location
abbrev pub BeginAt : (text : List ℕ) → Code → Span → Location → (lines : List ℕ) → Type 0
BeginAt text code span at lines = BeginsWith lines (IsHeading (string_bytes at.file) text span.start (place_in at) code)

-- The lines state the explanation: for a fault they begin with its file, its line and column, its number and its name; for a plan
-- they have the verdict and the reasons; and for a task they are its summary, the outcome of grounding, and its notes.
abbrev pub SaySubject : (traced : Bool) → Files → Subject → Option Location → (notes : List (List ℕ)) → (lines : List ℕ) → Type 0
SaySubject traced files (Fault file code span) at notes lines =
    (text : List ℕ) × IfSome (file_in files file) (λ named. text ≡ named.text) × IfSome at (λ at. BeginAt text code span at lines)
SaySubject traced files (Plan verdict) at notes lines = IfSome files.plan (λ named. IsPlanSaid traced files named.text (verdict_of verdict) at lines)
SaySubject traced files (Task holds grounded) at notes lines = lines ≡ summary_text holds ++ (grounded_line grounded ++ on_lines notes)

-- a further fault is one of the domain and the problem, and its lines state it
abbrev pub IsReportedIn : Files → FurtherFault → Type 0
IsReportedIn files f = IfSome (file_in files f.fault.file) (λ named. IsFurtherOf files.domain.text files.problem.text named.name named.text f)

-- the lines of a fault end with those of the further faults; there are none for a subject that is not a fault
abbrev pub SayFurther : Subject → List FurtherFault → (lines : List ℕ) → Type 0
SayFurther (Fault file code span) further lines = EndsWith lines (further_text further)
SayFurther (Plan verdict) further lines = further ≡ []
SayFurther (Task holds grounded) further lines = further ≡ []

-- the bytes of a file; of a plan that is not given, none
abbrev pub bytes_of : Files → Texts
bytes_of files file = option_map_or (λ (named : Named). named.text) (file_in files file) []

-- no fault of the files is left out
abbrev pub IsWhole : Files → Subject → List FurtherFault → Type 0
IsWhole files (Fault file code span) further = IsComplete (bytes_of files) (record { file = file; code = code; span = span }) further
IsWhole files (Plan verdict) further = Unit {0}
IsWhole files (Task holds grounded) further = Unit {0}

-- The location is that of the subject, and the lines state it. The further faults are faults of the files, and none is left out.
pub record IsSaidOf (traced : Bool) (files : Files) (e : Explanation) : Type 0 where
  pub located : IsSubjectLocated files e.subject e.location
  pub lines : SaySubject traced files e.subject e.location (map string_bytes e.notes.items) (string_bytes e.text)
  pub further : All (IsReportedIn files) e.further.items
  pub further_lines : SayFurther e.subject e.further.items (string_bytes e.text)
  pub whole : IsWhole files e.subject e.further.items
