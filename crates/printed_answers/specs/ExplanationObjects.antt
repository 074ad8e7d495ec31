-- Explanations as JSON objects, whose keys are in bytewise order.
use Rattle.std.specs.Prelude.{ℕ, List, [], ◌∷◌, codes, map, Option, Some, None}
use Rattle.std.specs.String.{string_bytes}
use Rattle.faults.specs.Fault.{number_of, name_in, names}
use Rattle.faults.specs.declared.code.Code.{Code}
use Rattle.explain_tasks.specs.declared.summary.Summary.{Summary}
use Rattle.file_answers.specs.declared.explanation.Explanation.{Explanation}
use Rattle.file_answers.specs.declared.explanation.FurtherFault.{FurtherFault}
use Rattle.file_answers.specs.declared.explanation.Location.{Location}
use Rattle.file_answers.specs.declared.explanation.Subject.{Subject}
use Rattle.file_answers.specs.declared.explanation.Subject.TheVariants as subject
use Rattle.file_answers.specs.declared.explanation.Grounded.{Grounded}
use Rattle.file_answers.specs.declared.explanation.Grounded.TheVariants.{Within, Beyond}
use Rattle.grounding_instances.specs.declared.fault.GroundLimit.{GroundLimit}
use Rattle.grounding_instances.specs.declared.fault.GroundLimit.TheVariants.{Instances, Atoms}
use Rattle.validator.specs.Verdict.{verdict_of}
use Rattle.model.specs.Runs.{Verdict, valid, not_applicable, goal_missed}
use Rattle.printed_answers.specs.JsonText.{Member, number, text, texts}
use Rattle.printed_answers.specs.Objects.{member, command, result}

-- the command, and the text as a member
abbrev pub explain : Member
explain = command (codes "explain")

abbrev numbered : List ℕ → ℕ → Member
numbered key n = member key (number n)

abbrev pub text_member : (lines : List ℕ) → Member
text_member lines = member (codes "text") (text lines)

abbrev code_member : Code → Member
code_member code = numbered (codes "code") (number_of code)

abbrev name_member : Code → Member
name_member code = member (codes "name") (text (name_in names (number_of code)))

-- a fault at this place in the file with this name
abbrev pub of_located_fault : Code → (name : List ℕ) → (line column length : ℕ) → (further hints : List (List ℕ)) → (lines : List ℕ) → List Member
of_located_fault code name line column length further hints lines =
    code_member code ∷ numbered (codes "column") column ∷ explain ∷ member (codes "file") (text name) ∷ member (codes "further") (texts further)
    ∷ member (codes "hints") (texts hints) ∷ numbered (codes "length") length ∷ numbered (codes "line") line ∷ name_member code ∷ result (codes "fault") ∷ text_member lines ∷ []

abbrev pub of_plain_fault : Code → (further hints : List (List ℕ)) → (lines : List ℕ) → List Member
of_plain_fault code further hints lines =
    code_member code ∷ explain ∷ member (codes "further") (texts further) ∷ member (codes "hints") (texts hints) ∷ name_member code ∷ result (codes "fault") ∷ text_member lines ∷ []

abbrev pub of_fault : Code → Option Location → (further hints : List (List ℕ)) → (lines : List ℕ) → List Member
of_fault code (Some at) further hints lines = of_located_fault code (string_bytes at.file) at.line at.column at.length further hints lines
of_fault code None further hints lines = of_plain_fault code further hints lines

-- a plan that solves the task, or misses the goal
abbrev pub of_valid : (cost : ℕ) → (lines : List ℕ) → List Member
of_valid cost lines = explain ∷ numbered (codes "cost") cost ∷ result (codes "valid") ∷ text_member lines ∷ []

abbrev pub of_missed : (lines : List ℕ) → List Member
of_missed lines = explain ∷ result (codes "goal missed") ∷ text_member lines ∷ []

-- an inapplicable step, at this place in the file with this name
abbrev pub of_located_step : (step : ℕ) → (name : List ℕ) → (line column length : ℕ) → (lines : List ℕ) → List Member
of_located_step step name line column length lines =
    numbered (codes "column") column ∷ explain ∷ member (codes "file") (text name) ∷ numbered (codes "length") length
    ∷ numbered (codes "line") line ∷ result (codes "not applicable") ∷ numbered (codes "step") step ∷ text_member lines ∷ []

abbrev pub of_plain_step : (step : ℕ) → (lines : List ℕ) → List Member
of_plain_step step lines = explain ∷ result (codes "not applicable") ∷ numbered (codes "step") step ∷ text_member lines ∷ []

abbrev pub of_step : (step : ℕ) → Option Location → (lines : List ℕ) → List Member
of_step step (Some at) lines = of_located_step step (string_bytes at.file) at.line at.column at.length lines
of_step step None lines = of_plain_step step lines

abbrev pub of_plan : Verdict → Option Location → (lines : List ℕ) → List Member
of_plan (valid cost) location lines = of_valid cost lines
of_plan (not_applicable step) location lines = of_step step location lines
of_plan goal_missed location lines = of_missed lines

-- a task: its summary, the numbers of kept instances and numbered atoms, and its notes
abbrev pub of_grounded : Summary → (kept width : ℕ) → (notes : List (List ℕ)) → (lines : List ℕ) → List Member
of_grounded holds kept width notes lines =
    numbered (codes "actions") holds.actions ∷ numbered (codes "atoms") width ∷ explain ∷ numbered (codes "functions") holds.functions
    ∷ numbered (codes "instances") kept ∷ member (codes "notes") (texts notes) ∷ numbered (codes "objects") holds.objects
    ∷ numbered (codes "predicates") holds.predicates ∷ result (codes "task") ∷ text_member lines ∷ numbered (codes "types") holds.types ∷ []

-- the same with the limit that it exceeds
abbrev pub of_beyond : Summary → (limit : List ℕ) → (notes : List (List ℕ)) → (lines : List ℕ) → List Member
of_beyond holds limit notes lines =
    numbered (codes "actions") holds.actions ∷ explain ∷ numbered (codes "functions") holds.functions
    ∷ member (codes "notes") (texts notes) ∷ numbered (codes "objects") holds.objects ∷ numbered (codes "predicates") holds.predicates
    ∷ member (codes "reason") (text limit) ∷ result (codes "unknown") ∷ text_member lines ∷ numbered (codes "types") holds.types ∷ []

abbrev pub limit_name : GroundLimit → List ℕ
limit_name Instances = codes "instances"
limit_name Atoms = codes "atoms"

abbrev pub of_task : Summary → Grounded → (notes : List (List ℕ)) → (lines : List ℕ) → List Member
of_task holds (Within instances atoms) notes lines = of_grounded holds instances atoms notes lines
of_task holds (Beyond limit) notes lines = of_beyond holds (limit_name limit) notes lines

-- the lines of a further fault
abbrev pub lines_of : FurtherFault → List ℕ
lines_of fault = string_bytes fault.text

abbrev of_subject : Subject → Option Location → (further hints notes : List (List ℕ)) → (lines : List ℕ) → List Member
of_subject (subject.Fault file code span) location further hints notes lines = of_fault code location further hints lines
of_subject (subject.Plan verdict) location further hints notes lines = of_plan (verdict_of verdict) location lines
of_subject (subject.Task holds grounded) location further hints notes lines = of_task holds grounded notes lines

abbrev pub of_explanation : Explanation → List Member
of_explanation e =
    of_subject e.subject e.location (map lines_of e.further.items) (map string_bytes e.hints.items) (map string_bytes e.notes.items) (string_bytes e.text)
