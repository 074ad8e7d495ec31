-- The notes on a task as lines of text, each without LF, byte by byte.
use Rattle.std.specs.Prelude.{ℕ, ◌+◌, ◌-◌, Bool, List, [], ◌∷◌, ◌++◌, codes, if◌then◌else◌, length, map, nat_lt, slice_get, take}
use Rattle.std.specs.Fmt.{decimal}
use Rattle.std.specs.List.{flat_map}
use Rattle.std.specs.Option.{option_map_or}
use Rattle.std.specs.Str.Lossy.{utf8_lossy}
use Rattle.task.specs.NumberedNames.{form_text, function_name, ground_text, predicate_name}
use Rattle.task.specs.TaskParts.{atom_of}
use Rattle.formulas.specs.State.{instance_of}
use Rattle.model.specs.Task.{Task, Name, Atom, LiftedAtom, Increase, by_number, by_function, Instance, Schema}
use Rattle.model.specs.Meaning.{object_of}
use Rattle.model.specs.PlanWriting.{object_name, schema_name}
use Rattle.explain_tasks.specs.declared.actions.ActionNotes.{ActionNotes}
use Rattle.explain_tasks.specs.declared.ground_notes.GroundNotes.{GroundNotes}
use Rattle.explain_tasks.specs.declared.notes.TaskNotes.{TaskNotes}

-- the maximum number of notes of a kind that are written
abbrev pub most_notes : ℕ
most_notes = 10

-- the line, if this is so
abbrev pub line_if : Bool → List ℕ → List (List ℕ)
line_if is line = if is then line ∷ [] else []

abbrev pub instance_text : Task → Instance → List ℕ
instance_text t i = form_text t (schema_name t i.schema) i.objects

-- ---- lists of names

-- another name of the list
abbrev pub next_text : (ℕ → Name) → ℕ → List ℕ
next_text name_of number = codes ", " ++ name_of number

-- how many more there are
abbrev pub others_text : (count : ℕ) → List ℕ
others_text count = if nat_lt most_notes count then codes " and " ++ (decimal (count - most_notes) ++ codes " more") else []

-- the names of these numbers: the first few, and how many more there are
abbrev pub names_text : (ℕ → Name) → (first : ℕ) (rest : List ℕ) → List ℕ
names_text name_of first rest = name_of first ++ (flat_map (next_text name_of) (take 9 rest) ++ (others_text (1 + length rest) ++ codes "."))

-- the line with the names, if there are any
abbrev pub names_line : (opening : List ℕ) → (ℕ → Name) → List ℕ → List (List ℕ)
names_line opening name_of [] = []
names_line opening name_of (first ∷ rest) = utf8_lossy (opening ++ names_text name_of first rest) ∷ []

-- ---- the notes that the files lead to, in order

abbrev pub predicate_lines : Task → TaskNotes → List (List ℕ)
predicate_lines t notes =
    names_line (codes "Predicates that no precondition, no condition and no goal asks for: ") (predicate_name t) notes.unasked_predicates.items
    ++ (names_line (codes "Predicates that are asked for, but that neither `:init` nor an action makes true: ") (predicate_name t) notes.never_true_predicates.items
    ++ names_line (codes "Predicates of `:init` that are asked for, and that actions delete but none adds: ") (predicate_name t) notes.only_deleted_predicates.items)

abbrev pub cost_lines : Task → TaskNotes → List (List ℕ)
cost_lines t notes =
    line_if notes.ignores_costs (codes "Actions increase the total cost, but the problem has no `:metric`, so each step costs 1.")
    ++ (line_if notes.lacks_costs (codes "The problem has a `:metric`, but no action increases the total cost, so every plan costs 0.")
    ++ names_line (codes "Actions that do not increase the total cost, although others do: ") (schema_name t) notes.actions.free.items)

abbrev pub action_lines : Task → ActionNotes → List (List ℕ)
action_lines t notes =
    names_line (codes "Actions that ask for an atom and for its negation: ") (schema_name t) notes.contradictory.items
    ++ (names_line (codes "Actions with a parameter for which there is no object: ") (schema_name t) notes.uninhabited.items
    ++ names_line (codes "Actions that delete and add the same atom, of which the addition counts: ") (schema_name t) notes.undoing.items)

abbrev pub goal_lines : TaskNotes → List (List ℕ)
goal_lines notes =
    line_if notes.has_empty_goal (codes "The goal is empty, so it is true at the start.")
    ++ line_if notes.starts_at_goal (codes "The goal is true at the start.")

abbrev pub task_lines : Task → TaskNotes → List (List ℕ)
task_lines t notes =
    cost_lines t notes
    ++ (predicate_lines t notes
    ++ (names_line (codes "Objects that no atom of `:init`, no action and no goal names: ") (object_name t) notes.unnamed_objects.items
    ++ (action_lines t notes.actions
    ++ goal_lines notes)))

-- ---- the notes that the kept instances lead to, in order

-- a function of the objects that its terms denote for an instance
abbrev pub function_text : Task → Instance → LiftedAtom → List ℕ
function_text t i f = form_text t (function_name t f.predicate) (map (object_of i.objects) f.terms)

-- the value that an instance lacks, and the instance
abbrev pub lacking_value : Task → Instance → LiftedAtom → List ℕ
lacking_value t i f = function_text t i f ++ (codes " has no value, so " ++ (instance_text t i ++ codes " can never be applied."))

abbrev pub lacking_text : Task → Instance → Increase → List (List ℕ)
lacking_text t i (by_number amount) = []
lacking_text t i (by_function f) = utf8_lossy (lacking_value t i f) ∷ []

abbrev pub lacking_line : Task → Instance → List (List ℕ)
lacking_line t i = option_map_or (λ (s : Schema). lacking_text t i s.increase) (slice_get t.schemas i.schema) []

abbrev pub lacking_lines : Task → List Instance → List (List ℕ)
lacking_lines t lacking =
    flat_map (lacking_line t) (take most_notes lacking)
    ++ line_if (nat_lt most_notes (length lacking)) (codes "More values that actions increase the total cost by are missing.")

-- the schema whose instances were not checked
abbrev pub passed_text : Task → (most : ℕ) → ℕ → List ℕ
passed_text t most number =
    codes "Whether costs of `" ++ (schema_name t number ++ (codes "` have no value was not looked at, as it has more than " ++ (decimal most ++ codes " instances.")))

abbrev pub passed_line : Task → (most : ℕ) → ℕ → List ℕ
passed_line t most number = utf8_lossy (passed_text t most number)

-- an atom that the goal requires and that is never true
abbrev pub missing_text : Task → Atom → List ℕ
missing_text t a = codes "The goal asks for " ++ (ground_text t a ++ codes ", which is false at the start, and which no action can make true.")

abbrev pub missing_line : Task → Atom → List (List ℕ)
missing_line t a = utf8_lossy (missing_text t a) ∷ []

abbrev pub missing_lines : Task → List Atom → List (List ℕ)
missing_lines t atoms =
    flat_map (missing_line t) (take most_notes atoms) ++ line_if (nat_lt most_notes (length atoms)) (codes "The goal asks for more atoms that are never true.")

abbrev pub ground_lines : Task → GroundNotes → List (List ℕ)
ground_lines t notes =
    lacking_lines t (map instance_of notes.lacking.items)
    ++ (map (passed_line t notes.most) notes.passed_over.items
    ++ (missing_lines t (map atom_of notes.missing_goals.items)
    ++ names_line (codes "Actions that can never be applied: ") (schema_name t) notes.idle_actions.items))
