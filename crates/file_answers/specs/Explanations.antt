-- The subject of an explanation of files.
use Rattle.std.specs.Prelude.{◌≡◌, ℕ, ◌≤◌, Bool, List, [], ◌++◌, length, map, Option, None, Some, IfSome, IsSomeAnd}
use Rattle.std.specs.Option.{option_map}
use Rattle.std.specs.String.{string_bytes}
use Rattle.faults.specs.declared.code.Code.{Code}
use Rattle.faults.specs.declared.refused.Span.{Span}
use Rattle.explain_hints.specs.Files.{name_in}
use Rattle.explain_hints.specs.Files.{text_in as bytes_in}
use Rattle.explain_hints.specs.declared.texts.File.{File}
use Rattle.explain_hints.specs.declared.texts.NamedText.{NamedText}
use Rattle.explain_hints.specs.declared.texts.NamedTexts.{NamedTexts}
use Rattle.explain_plans.specs.Explanations as plans
use Rattle.explain_plans.specs.Explanations.{IsExplained}
use Rattle.task.specs.VariableNames.{VariableNames}
use Rattle.explain_plans.specs.declared.explanations.PlanExplanation.{PlanExplanation}
use Rattle.explain_tasks.specs.Summary.{IsSummaryOf, summary_text}
use Rattle.explain_tasks.specs.declared.summary.Summary.{Summary}
use Rattle.grounding_instances.specs.Numbering.{limit_of}
use Rattle.validator.specs.Verdict.{verdict_of}
use Rattle.validator.specs.declared.verdict.Verdict.{Verdict}
use Rattle.file_answers.specs.ExplanationLines.{Files, Named, BeginAt, IsLocated, IsStepAt, IsStepLocated, SayPlanAs, files_of, grounded_line, on_lines}
use Rattle.file_answers.specs.Files.{fault_at}
use Rattle.file_answers.specs.Complete.{IsComplete}
use Rattle.file_answers.specs.FurtherFaults.{AreFurther, EndsWith, further_text}
use Rattle.file_answers.specs.Inputs.{IsInputFault}
use Rattle.file_answers.specs.Notes.{AreAllReported}
use Rattle.file_answers.specs.declared.explanation.Explanation.{Explanation}
use Rattle.file_answers.specs.declared.explanation.Grounded.{Grounded}
use Rattle.file_answers.specs.declared.explanation.Grounded.TheVariants.{Within, Beyond}
use Rattle.file_answers.specs.declared.explanation.Location.{Location}
use Rattle.file_answers.specs.declared.explanation.Subject.{Subject}
use Rattle.file_answers.specs.declared.explanation.Subject.TheVariants.{Fault, Plan, Task}
use Rattle.file_answers.specs.declared.files.FileFault.{FileFault}
use Rattle.file_answers.specs.declared.files.FileFault.TheVariants as refused
use Rattle.model.specs.Task as model
use Rattle.model.specs.Meaning.{system_of}
use Rattle.model.specs.Runs as runs
use Rattle.model.specs.Runs.{IsVerdict}
use Rattle.model.specs.PlanText.{HasSteps, Step}
use Rattle.model.specs.Files.{IsTaskOf, IsVerdictOf}
use Rattle.model.specs.Limits.{max_numbered_atoms}
use Rattle.model.specs.StaticallyFalse.{kept_instances}
use Rattle.model.specs.NumberedAtoms.{numbered_atoms}
use Rattle.model.specs.Grounding.{exceeded_limit}

-- the bytes of a text, if one is given
abbrev pub text_in : Option NamedText → Option (List ℕ)
text_in = option_map (λ (named : NamedText). named.text.now)

-- This many instances of the task are kept and this many atoms numbered, within the limits; or this limit is exceeded, if at most
-- this many instances may be kept.
abbrev pub IsGrounded : model.Task → (most : ℕ) → Grounded → Type 0
IsGrounded task most (Within instances atoms) =
    (instances ≡ length (kept_instances task)) × (atoms ≡ length (numbered_atoms task []))
    × (exceeded_limit most max_numbered_atoms task [] ≡ None)
IsGrounded task most (Beyond limit) = exceeded_limit most max_numbered_atoms task [] ≡ Some (limit_of limit)

-- the summary of the task is this, and the outcome of grounding is this
abbrev pub IsHeld : model.Task → (most : ℕ) → Summary → Grounded → Type 0
IsHeld task most holds grounded = IsSummaryOf task holds × IsGrounded task most grounded

-- The subject is correct for the texts of a domain and a problem, and of a plan, if one is given: the first fault; or without a
-- fault the verdict on the plan; or without a plan the summary of the task and the outcome of grounding.
abbrev pub IsTrueOf : (domain problem : List ℕ) → (plan : Option (List ℕ)) → (most : ℕ) → Subject → Type 0
IsTrueOf domain problem plan most (Fault file code span) = IsInputFault domain problem plan (fault_at file code span)
IsTrueOf domain problem (Some plan) most (Plan verdict) = IsVerdictOf domain problem plan (verdict_of verdict)
IsTrueOf domain problem None most (Plan verdict) = ⊥
IsTrueOf domain problem (Some plan) most (Task holds grounded) = ⊥
IsTrueOf domain problem None most (Task holds grounded) = (task : model.Task) × IsTaskOf domain problem task × IsHeld task most holds grounded

-- ---- intermediate definitions

-- a file of these texts
abbrev pub in_texts : NamedTexts → File → Named
in_texts texts file = record { name = name_in texts file; text = bytes_in texts file }

-- these texts, each that of an input file
abbrev pub files_in : NamedTexts → Files
files_in texts = files_of texts.domain texts.problem (Some texts.plan)

-- the fault is explained, at its place
pub record IsExplainedAlone (texts : NamedTexts) (file : File) (code : Code) (span : Span) (e : Explanation) : Type 0 where
  pub subject : e.subject ≡ Fault file code span
  pub located : IsSomeAnd e.location (IsLocated (in_texts texts file) span)
  pub says : IfSome e.location (λ at. BeginAt (bytes_in texts file) code span at (string_bytes e.text))

-- the same, followed by the further faults
pub record IsFaultExplained (texts : NamedTexts) (file : File) (code : Code) (span : Span) (e : Explanation) : Type 0 where
  pub subject : e.subject ≡ Fault file code span
  pub located : IsSomeAnd e.location (IsLocated (in_texts texts file) span)
  pub says : IfSome e.location (λ at. BeginAt (bytes_in texts file) code span at (string_bytes e.text))
  pub further : AreFurther texts e.further.items
  pub says_further : EndsWith (string_bytes e.text) (further_text e.further.items)
  pub complete : IsComplete (bytes_in texts) (record { file = file; code = code; span = span }) e.further.items

-- running out of memory is not explained
abbrev pub IsOfFault : NamedTexts → FileFault → Explanation → Type 0
IsOfFault texts (refused.At file code span) e = IsFaultExplained texts file code span e
IsOfFault texts refused.NoMemory e = ⊥

-- for these steps of the task the subject is the verdict, with the place of the inapplicable step, and the lines state it
pub record IsPlanReported (task : model.Task) (steps : List model.Instance) (traced : Bool) (file : Named) (explained : PlanExplanation) (e : Explanation) : Type 0 where
  pub code : Verdict
  pub subject : e.subject ≡ Plan code
  pub same : verdict_of code ≡ plans.verdict_of explained
  pub located : IsStepLocated file (plans.verdict_of explained) e.location
  pub says : SayPlanAs traced e.location task steps explained (string_bytes e.text)
  pub no_further : e.further.items ≡ []

-- and the verdict is true
abbrev pub IsVerdictExplained : model.Task → VariableNames → List model.Instance → (traced : Bool) → (file : Named) → Explanation → Type 0
IsVerdictExplained task names steps traced file e =
    (explained : PlanExplanation) × IsVerdict (system_of task) steps (plans.verdict_of explained) × IsExplained task names steps explained
    × IsPlanReported task steps traced file explained e

-- the inapplicable step is one of the text
abbrev pub IsStepOf : (text : List ℕ) → runs.Verdict → Type 0
IsStepOf text (runs.valid cost) = Unit {0}
IsStepOf text (runs.not_applicable step) = (steps : List Step) × HasSteps text steps × (1 ≤ step) × (step ≤ length steps)
IsStepOf text runs.goal_missed = Unit {0}

-- its span is found
abbrev pub IsStepFound : (text : List ℕ) → runs.Verdict → Option Span → Type 0
IsStepFound text (runs.valid cost) found = Unit {0}
IsStepFound text (runs.not_applicable step) found = IsSomeAnd found (IsStepAt text step)
IsStepFound text runs.goal_missed found = Unit {0}

-- the location is that of the span, if there is one
abbrev pub IsLocatedIf : Named → Option Span → Option Location → Type 0
IsLocatedIf file None at = Unit {0}
IsLocatedIf file (Some span) at = IsSomeAnd at (IsLocated file span)

-- the subject is the summary of the task and the outcome of grounding, and the notes are those on the task
pub record IsTaskExplained (task : model.Task) (most : ℕ) (e : Explanation) : Type 0 where
  pub holds : Summary
  pub grounded : Grounded
  pub subject : e.subject ≡ Task holds grounded
  pub is_held : IsHeld task most holds grounded
  pub noted : AreAllReported task most grounded (map string_bytes e.notes.items)
  pub says : string_bytes e.text ≡ summary_text holds ++ (grounded_line grounded ++ on_lines (map string_bytes e.notes.items))
  pub no_further : e.further.items ≡ []
