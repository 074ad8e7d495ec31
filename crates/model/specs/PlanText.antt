-- When a text is a plan, that is, a list of actions of a task, and the fault of a text that is not. Plan texts are this
-- repository's profile of what planners write and validators read: steps `(action object ..)`, each the name of an action (PDDL
-- 1.2 manual, "Actions") and of an object for each of its parameters, with blanks and comments as in a domain file. Runs may have
-- any length, and case does not matter.
use Rattle.std.specs.Prelude.{◌≡◌, ◌≢◌, ℕ, ◌+◌, ◌<◌, ◌≤◌, ◌||◌, ◌==◌, Bool, false, IsTrue, if◌then◌else◌, List, [], ◌∷◌, ◌++◌, length, map, position, slice_get, Some, ⊤}
use Rattle.std.specs.Char.{is_ascii_digit}
use Rattle.model.specs.Fault.{Fault}
use Rattle.model.specs.Words.{opening, closing, run, Part, form, bytes, size, is_gap, AreParts, is_name, longest_text}
use Rattle.model.specs.Trees.{Name}
use Rattle.model.specs.Task.{Union, Object, Task, Schema, Instance}
use Rattle.model.specs.Meaning.{is_of, is_instance}
use Rattle.model.specs.Resolution.{folded, is_same}

-- a parenthesis, a run or a stray byte of a text, and the offset of its first byte
pub record Placed : Type 0 where
  pub start : ℕ
  pub part : Part

-- the parts other than gaps, in order, if the first part begins at this offset
abbrev pub placed_from : ℕ → List Part → List Placed
placed_from start [] = []
placed_from start (part ∷ parts) =
    if is_gap (form part) then placed_from (start + size part) parts
    else (record { start = start; part = part } ∷ placed_from (start + size part) parts)

-- The form of a plan text

-- a step as written: the names of its action and of its objects
pub record Step : Type 0 where
  pub action : Name
  pub objects : List Name

-- the word is this name
pub record IsName (word : Placed) (name : Name) : Type 0 where
  pub well_formed : IsTrue (is_name (bytes word.part))
  pub text : name.text ≡ bytes word.part
  pub span : name.span ≡ record { start = word.start; end = word.start + size word.part }

-- the words are these names, one for one
abbrev pub AreNames : List Placed → List Name → Type 0
AreNames [] [] = ⊤
AreNames [] (name ∷ names) = ⊥
AreNames (word ∷ words) [] = ⊥
AreNames (word ∷ words) (name ∷ names) = IsName word name × AreNames words names

-- a step is `(`, the name of an action, the names of its objects, and `)`
pub record IsStep (words : List Placed) (step : Step) : Type 0 where
  pub first : Placed
  pub names : List Placed
  pub last : Placed
  pub in_order : words ≡ first ∷ names ++ last ∷ []
  pub opens : form first.part ≡ opening
  pub closes : form last.part ≡ closing
  pub named : AreNames names (step.action ∷ step.objects)

-- the words are these steps, one after another, and nothing else
abbrev pub AreSteps : List Placed → List Step → Type 0
AreSteps words [] = words ≡ []
AreSteps words (step ∷ steps) = (these rest : List Placed) × (words ≡ these ++ rest) × IsStep these step × AreSteps rest steps

-- the text consists of gaps and these steps
pub record HasSteps (text : List ℕ) (steps : List Step) : Type 0 where
  pub short : length text ≤ longest_text
  pub parts : List Part
  pub cut : AreParts text parts
  pub steps_of_parts : AreSteps (placed_from 0 parts) steps

-- The actions that a plan text names

-- the number of the first declared name that equals this one regardless of case
abbrev pub IsNumberOf : List (List ℕ) → Name → ℕ → Type 0
IsNumberOf declared name number = position (is_same (folded name)) declared ≡ Some number

-- the name is declared
abbrev pub IsDeclared : List (List ℕ) → Name → Type 0
IsDeclared declared name = (number : ℕ) × IsNumberOf declared name number

-- these are the numbers of these names, one for one
abbrev pub AreNumbersOf : List (List ℕ) → List Name → List ℕ → Type 0
AreNumbersOf declared [] [] = ⊤
AreNumbersOf declared [] (number ∷ numbers) = ⊥
AreNumbersOf declared (name ∷ names) [] = ⊥
AreNumbersOf declared (name ∷ names) (number ∷ numbers) = IsNumberOf declared name number × AreNumbersOf declared names numbers

-- the names of a task's schemas, and of its objects
abbrev pub schema_names : Task → List (List ℕ)
schema_names task = map (λ (s : Schema). s.name) task.schemas

abbrev pub object_names : Task → List (List ℕ)
object_names task = map (λ (o : Object). o.name) task.objects

-- the step names this instance of the task
pub record Means (task : Task) (step : Step) (i : Instance) : Type 0 where
  pub action : IsNumberOf (schema_names task) step.action i.schema
  pub objects : AreNumbersOf (object_names task) step.objects i.objects
  pub fits : IsTrue (is_instance task i)

-- the steps name these instances, one for one
abbrev pub AllMean : Task → List Step → List Instance → Type 0
AllMean task [] [] = ⊤
AllMean task [] (i ∷ plan) = ⊥
AllMean task (step ∷ steps) [] = ⊥
AllMean task (step ∷ steps) (i ∷ plan) = Means task step i × AllMean task steps plan

-- the text is this plan for the task
abbrev pub IsPlanText : Task → List ℕ → List Instance → Type 0
IsPlanText task text plan = (steps : List Step) × HasSteps text steps × AllMean task steps plan

-- Faults

-- the words are a prefix of a list of steps
abbrev pub BeginsSteps : List Placed → Type 0
BeginsSteps words = (more : List Placed) × (steps : List Step) × AreSteps (words ++ more) steps

-- the bytes begin like a time stamp: with a digit, `.` or `[`
abbrev pub is_stamp : List ℕ → Bool
is_stamp [] = false
is_stamp (byte ∷ others) = is_ascii_digit byte || byte == 46 || byte == 91

-- a run that is a time stamp, outside of steps: the words before it are whole steps
pub record IsTimed (before : List Placed) (word : Placed) : Type 0 where
  pub steps : List Step
  pub outside : AreSteps before steps
  pub is_run : form word.part ≡ run
  pub stamp : IsTrue (is_stamp (bytes word.part))

-- the number reported for a word refused after these
pub data IsNumberOfWord (before : List Placed) (word : Placed) (number : ℕ) : Type 0 where
  -- for a time stamp outside of steps
  timed : IsTimed before word → number ≡ 31 → IsNumberOfWord before word number
  -- for any other word
  untimed : (IsTimed before word → ⊥) → number ≡ 30 → IsNumberOfWord before word number

-- the form of the text is faulty, and this is reported
pub data IsFormFault (text : List ℕ) (fault : Fault) : Type 0 where
  -- a text that is too long, at the bytes beyond the limit
  too_long : longest_text < length text → fault.code ≡ 30 → fault.span.start ≡ longest_text → fault.span.end ≡ length text
      → IsFormFault text fault
  -- the first parenthesis, run or stray byte that is not the continuation of a plan text
  refused : length text ≤ longest_text → (parts : List Part) → AreParts text parts → (before after : List Placed) → (word : Placed)
      → placed_from 0 parts ≡ before ++ word ∷ after → BeginsSteps before → (BeginsSteps (before ++ word ∷ []) → ⊥)
      → IsNumberOfWord before word fault.code → fault.span.start ≡ word.start → fault.span.end ≡ word.start + size word.part
      → IsFormFault text fault
  -- a step still open at the end, at the end
  open_at_end : length text ≤ longest_text → (parts : List Part) → AreParts text parts → BeginsSteps (placed_from 0 parts)
      → ((steps : List Step) → AreSteps (placed_from 0 parts) steps → ⊥)
      → fault.code ≡ 30 → fault.span.start ≡ length text → fault.span.end ≡ length text → IsFormFault text fault

-- the name is that of an object of one of these types
abbrev pub NamesObject : Task → Union → Name → Type 0
NamesObject task types name = (number : ℕ) × IsNumberOf (object_names task) name number × IsTrue (is_of task types number)

-- each name is that of an object of the types at its index
abbrev pub NameObjects : Task → List Union → List Name → Type 0
NameObjects task [] [] = ⊤
NameObjects task [] (name ∷ names) = ⊥
NameObjects task (types ∷ others) [] = ⊥
NameObjects task (types ∷ others) (name ∷ names) = NamesObject task types name × NameObjects task others names

-- the step is faulty
pub data IsStepFault (task : Task) (step : Step) (fault : Fault) : Type 0 where
  unknown_action : (IsDeclared (schema_names task) step.action → ⊥) → fault.code ≡ 32 → fault.span ≡ step.action.span
      → IsStepFault task step fault
  wrong_count : (number : ℕ) → (schema : Schema) → IsNumberOf (schema_names task) step.action number
      → slice_get task.schemas number ≡ Some schema → length step.objects ≢ length schema.parameters
      → fault.code ≡ 33 → fault.span ≡ step.action.span → IsStepFault task step fault
  -- the first object that is undeclared or not of its parameter's types
  wrong_object : (number : ℕ) → (schema : Schema) → IsNumberOf (schema_names task) step.action number
      → slice_get task.schemas number ≡ Some schema → length step.objects ≡ length schema.parameters
      → (before after : List Name) → (name : Name) → (theirs others : List Union) → (types : Union)
      → step.objects ≡ before ++ name ∷ after → schema.parameters ≡ theirs ++ types ∷ others
      → NameObjects task theirs before → (NamesObject task types name → ⊥)
      → fault.code ≡ 34 → fault.span ≡ name.span → IsStepFault task step fault

-- the fault reported for the text: its form first, and then the first faulty step
pub data IsPlanFault (task : Task) (text : List ℕ) (fault : Fault) : Type 0 where
  of_form : IsFormFault text fault → IsPlanFault task text fault
  of_step : (steps before after : List Step) → (step : Step) → (plan : List Instance) → HasSteps text steps
      → steps ≡ before ++ step ∷ after → AllMean task before plan → IsStepFault task step fault → IsPlanFault task text fault
