-- The trace of a plan: what each step costs, adds and deletes, as far as the plan is applicable.
use Rattle.std.specs.Prelude.{ℕ, ◌+◌, List, [], ◌∷◌, ◌++◌, codes, map}
use Rattle.std.specs.FinMap.{from_entries, keys}
use Rattle.std.specs.FinSet.{difference, items}
use Rattle.std.specs.List.{flat_map}
use Rattle.std.specs.Option.{option_map_or}
use Rattle.explain_plans.specs.PlanLines.{cost_line}
use Rattle.task.specs.NumberedNames.{ground_text}
use Rattle.model.specs.Task.{Task, Atom, Instance}
use Rattle.model.specs.Meaning.{State, atom_cmp, initial_state, cost_of, step}

-- an atom as an entry of a map
abbrev pub as_entry : Atom → Atom × Unit {0}
as_entry a = (a, tt)

-- The atoms of a set in ascending order, each once, as the keys of a map: by predicate and then lexicographically by objects, both in
-- the order of their declaration.
abbrev pub in_order : State → List Atom
in_order atoms = keys (from_entries {R = atom_cmp} (map as_entry (items atoms)))

-- the atoms that a step adds: false before it and true after it
abbrev pub added : (before after : State) → List Atom
added before after = in_order (difference after before)

-- the atoms that it deletes: true before it and false after it
abbrev pub deleted : (before after : State) → List Atom
deleted before after = in_order (difference before after)

-- a blank and an atom
abbrev pub spaced_text : Task → Atom → List ℕ
spaced_text task a = codes " " ++ ground_text task a

-- the line of these atoms, after what is done to them; there is none without atoms
abbrev pub atoms_line : Task → (deed : List ℕ) → List Atom → List ℕ
atoms_line task deed [] = []
atoms_line task deed (first ∷ rest) = deed ++ (flat_map (spaced_text task) (first ∷ rest) ++ codes "\n")

-- the lines of what a step adds and deletes
abbrev pub change_lines : Task → (before after : State) → List ℕ
change_lines task before after =
    atoms_line task (codes "   adds") (added before after) ++ atoms_line task (codes "   deletes") (deleted before after)

-- The lines of these steps from a state on, after a number of earlier ones that have cost this much: what each costs, adds and
-- deletes. The first step that is not applicable ends them.
abbrev pub trace_lines : Task → (earlier paid : ℕ) → State → List Instance → List ℕ
trace_lines task earlier paid before [] = []
trace_lines task earlier paid before (i ∷ steps) =
    option_map_or (λ after.
    cost_line task (earlier + 1) i (cost_of task i) (paid + cost_of task i)
    ++ (change_lines task before after ++ trace_lines task (earlier + 1) (paid + cost_of task i) after steps))
    (step task before i) []

-- the lines of a plan
abbrev pub trace_text : Task → List Instance → List ℕ
trace_text task plan = trace_lines task 0 0 (initial_state task) plan
