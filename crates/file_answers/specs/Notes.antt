-- The notes of an explanation of a task: a line for each, in order.
use Rattle.std.specs.Prelude.{◌≡◌, ℕ, List, [], ◌++◌, map}
use Rattle.std.specs.String.{string_bytes}
use Rattle.explain_tasks.specs.NoteLines.{ground_lines, task_lines}
use Rattle.explain_tasks.specs.Notes.{AreGroundNotesOf, AreNotesOf}
use Rattle.explain_tasks.specs.declared.ground_notes.GroundNotes.{GroundNotes}
use Rattle.explain_tasks.specs.declared.notes.TaskNotes.{TaskNotes}
use Rattle.file_answers.specs.declared.explanation.Explanation.{Explanation}
use Rattle.file_answers.specs.declared.explanation.Grounded.{Grounded}
use Rattle.file_answers.specs.declared.explanation.Grounded.TheVariants.{Within, Beyond}
use Rattle.file_answers.specs.declared.explanation.Subject.{Subject}
use Rattle.file_answers.specs.declared.explanation.Subject.TheVariants.{Fault, Plan, Task}
use Rattle.model.specs.Task as model
use Rattle.model.specs.Files.{IsTaskOf}

-- The lines are those of the notes that the kept instances of the task lead to, and then those of its goal, of which no more is said here.
pub record AreGroundReported (t : model.Task) (most : ℕ) (lines : List (List ℕ)) : Type 0 where
  pub ground : GroundNotes
  pub are_ground : AreGroundNotesOf t most ground
  pub of_goal : List (List ℕ)
  pub stated : lines ≡ ground_lines t ground ++ of_goal

-- those of the notes that the files themselves lead to
pub record AreSuggested (t : model.Task) (lines : List (List ℕ)) : Type 0 where
  pub notes : TaskNotes
  pub are_notes : AreNotesOf t notes
  pub stated : lines ≡ task_lines t notes

-- the lines that grounding the task leads to; none where a limit is exceeded
abbrev pub AreReportedOfGround : model.Task → (most : ℕ) → Grounded → List (List ℕ) → Type 0
AreReportedOfGround t most (Within instances atoms) lines = AreGroundReported t most lines
AreReportedOfGround t most (Beyond limit) lines = lines ≡ []

-- the lines of all notes on the task, in order, and no others
abbrev pub AreAllReported : model.Task → (most : ℕ) → Grounded → List (List ℕ) → Type 0
AreAllReported t most grounded lines =
    (first : List (List ℕ)) × (others : List (List ℕ)) × AreReportedOfGround t most grounded first × AreSuggested t others × (lines ≡ first ++ others)

-- the notes of an explanation of two texts, if they are a task and no plan is given
abbrev pub AreNotedOf : (domain problem : List ℕ) → (most : ℕ) → Subject → List (List ℕ) → Type 0
AreNotedOf domain problem most (Fault file code span) notes = Unit {0}
AreNotedOf domain problem most (Plan verdict) notes = Unit {0}
AreNotedOf domain problem most (Task holds grounded) notes = (task : model.Task) × IsTaskOf domain problem task × AreAllReported task most grounded notes

abbrev pub AreNoted : (domain problem : List ℕ) → (most : ℕ) → Explanation → Type 0
AreNoted domain problem most e = AreNotedOf domain problem most e.subject (map string_bytes e.notes.items)
