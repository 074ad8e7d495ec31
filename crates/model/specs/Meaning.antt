-- The semantics of planning tasks: states, when a formula holds, what an action does (PDDL 1.2 manual, "Domains", "Actions",
-- "Goal descriptions", "Effects", "Problems"; Fox & Long 2003, section 8, without time; action costs, 2008).
use Rattle.std.specs.Prelude.{ℕ, Bool, true, false, ◌&&◌, ◌||◌, nat_eq, List, [], ◌∷◌, ◌++◌, length, map, filter, slice_get, slice_index, if◌then◌else◌, Option, None, Some, is_some, unwrap_or}
use Rattle.std.specs.List.{flat_map, list_all, list_any, range_with_len}
use Rattle.std.specs.Option.{option_map_or, option_and_then}
use Rattle.std.specs.Cmp.Lexicographic.{slice_cmp, pointwise}
use Rattle.std.specs.Ordering.{nat_cmp, eq_by_cmp}
use Rattle.std.specs.declared.cmp.Ordering.{Ordering}
use Rattle.std.specs.FinSet.{FinSet, from_list, contains, union, difference}
use Rattle.std.specs.Prelude as bool
use Rattle.model.specs.Task.{ObjectType, Object, Union, Atom, LiftedAtom, Term, variable, object, Formula, Formulas, atom, equal, and, or, not, imply, exists, forall, no_formula, more_formulas, EffectLiteral, add, delete, Effect, Effects, literal, both, each, when, no_effect, more_effects, Increase, by_number, by_function, FunctionValue, Schema, Task, Instance}
use Rattle.model.specs.Runs.{System}

-- atoms are ordered by predicate and then lexicographically by objects
abbrev pub atom_cmp : Atom → Atom → Ordering
atom_cmp a b = slice_cmp nat_cmp (a.predicate ∷ a.objects) (b.predicate ∷ b.objects)

-- A state is the finite set of its true atoms; every other atom is false (PDDL 1.2 manual, "Problems": closed world; Fox & Long
-- 2003, section 8).
abbrev pub State : Type 0
State = FinSet atom_cmp

-- the set of the atoms in `:init`: a repeated atom counts once
abbrev pub initial_state : Task → State
initial_state task = from_list task.init

-- ---- objects and their types

-- the supertypes of a type among these types
abbrev pub supertypes_in : List ObjectType → ℕ → List ℕ
supertypes_in all number = option_map_or (λ (t : ObjectType). t.supertypes) (slice_get all number) []

-- a type is one of these or a subtype of one, among these types
abbrev pub is_below_in : List ObjectType → Union → ℕ → Bool
is_below_in all types number = list_any (λ above. list_any (nat_eq above) types) (supertypes_in all number)

-- all supertypes of a type, itself included
abbrev pub supertypes_of : Task → ℕ → List ℕ
supertypes_of task = supertypes_in task.types

-- the type is one of these or a subtype of one
abbrev pub is_below : Task → Union → ℕ → Bool
is_below task = is_below_in task.types

-- the object is of one of these types: its declared type is one of them or a subtype of one
abbrev pub is_of : Task → Union → ℕ → Bool
is_of task types number = option_map_or (λ (o : Object). is_below task types o.type) (slice_get task.objects number) false

-- the objects of these types, in order and without repetition
abbrev pub objects_of : Task → Union → List ℕ
objects_of task types = filter (is_of task types) (range_with_len 0 (length task.objects))

-- ---- formulas and effects

-- the object that a term denotes under this binding of the variables
abbrev pub object_of : List ℕ → Term → ℕ
object_of binding (variable parameter) = slice_index binding parameter
object_of binding (object number) = number

-- the atom of these objects
abbrev pub ground_atom : List ℕ → LiftedAtom → Atom
ground_atom binding a = record { predicate = a.predicate; objects = map (object_of binding) a.terms }

-- A formula of the task holds in a state under a binding of the variables (PDDL 1.2 manual, "Goal descriptions"): an atom if it
-- is in the state, an equality if both terms denote the same object, `and`, `or`, `not` and `imply` as in logic, so `(and)`
-- always and `(or)` never. `exists` and `forall` range over the objects of the variable's types: without objects, `exists` is
-- false and `forall` true.
abbrev mutual
  pub holds : Task → Formula → List ℕ → State → Bool
  holds task (atom a) binding state = contains state (ground_atom binding a)
  holds task (equal t u) binding state = nat_eq (object_of binding t) (object_of binding u)
  holds task (and parts) binding state = all_hold task parts binding state
  holds task (or parts) binding state = some_holds task parts binding state
  holds task (not part) binding state = bool.not (holds task part binding state)
  holds task (imply premise conclusion) binding state = bool.not (holds task premise binding state) || holds task conclusion binding state
  holds task (exists types part) binding state = list_any (λ one. holds task part (binding ++ one ∷ []) state) (objects_of task types)
  holds task (forall types part) binding state = list_all (λ one. holds task part (binding ++ one ∷ []) state) (objects_of task types)

  pub all_hold : Task → Formulas → List ℕ → State → Bool
  all_hold task no_formula binding state = true
  all_hold task (more_formulas first rest) binding state = holds task first binding state && all_hold task rest binding state

  pub some_holds : Task → Formulas → List ℕ → State → Bool
  some_holds task no_formula binding state = false
  some_holds task (more_formulas first rest) binding state = holds task first binding state || some_holds task rest binding state

-- an atom that becomes true, or false
pub data GroundLiteral : Type 0 where
  adds : Atom → GroundLiteral
  deletes : Atom → GroundLiteral

-- what an effect changes if its condition holds, under this binding
pub record Change : Type 0 where
  pub condition : Formula
  pub binding : List ℕ
  pub literal : GroundLiteral

-- what a literal changes, under this binding
abbrev pub ground_literal : List ℕ → EffectLiteral → GroundLiteral
ground_literal binding (add a) = adds (ground_atom binding a)
ground_literal binding (delete a) = deletes (ground_atom binding a)

-- the same under this condition
abbrev pub change_under : Formula → List ℕ → EffectLiteral → Change
change_under condition binding l = record { condition = condition; binding = binding; literal = ground_literal binding l }

-- The changes of an effect under this binding (PDDL 1.2 manual, "Effects"): those of a `forall` for each object of its variable's
-- types. A change outside any `when` has the condition `(and)`.
abbrev mutual
  pub changes_of : Task → Effect → List ℕ → List Change
  changes_of task (literal l) binding = change_under (and no_formula) binding l ∷ []
  changes_of task (both parts) binding = changes_of_all task parts binding
  changes_of task (each types part) binding = flat_map (λ one. changes_of task part (binding ++ one ∷ [])) (objects_of task types)
  changes_of task (when condition literals) binding = map (change_under condition binding) literals

  pub changes_of_all : Task → Effects → List ℕ → List Change
  changes_of_all task no_effect binding = []
  changes_of_all task (more_effects first rest) binding = changes_of task first binding ++ changes_of_all task rest binding

-- the changes of an instance: those of its schema's effect, with its objects for the parameters
abbrev pub changes_of_instance : Task → Instance → List Change
changes_of_instance task i = option_map_or (λ (s : Schema). changes_of task s.effect i.objects) (slice_get task.schemas i.schema) []

-- the literals of the changes whose condition holds in the state
abbrev pub literals_in : Task → State → List Change → List GroundLiteral
literals_in task state changes =
    map (λ (c : Change). c.literal) (filter (λ (c : Change). holds task c.condition c.binding state) changes)

-- the atoms that these literals make true, and those that they make false
abbrev pub added_by : List GroundLiteral → List Atom
added_by [] = []
added_by (adds a ∷ rest) = a ∷ added_by rest
added_by (deletes a ∷ rest) = added_by rest

abbrev pub deleted_by : List GroundLiteral → List Atom
deleted_by [] = []
deleted_by (adds a ∷ rest) = deleted_by rest
deleted_by (deletes a ∷ rest) = a ∷ deleted_by rest

-- the state without the deleted atoms, and then with the added ones
abbrev pub after_literals : State → List GroundLiteral → State
after_literals state literals = union (difference state (from_list (deleted_by literals))) (from_list (added_by literals))

-- The state after these changes: all conditions are evaluated in the state before. An atom that is both deleted and added is true
-- afterwards (Fox & Long 2003, section 8).
abbrev pub after_changes : Task → State → List Change → State
after_changes task state changes = after_literals state (literals_in task state changes)

-- an object of the right types for each parameter; two parameters may have the same object
abbrev pub fits : Task → Schema → List ℕ → Bool
fits task schema objects = pointwise (is_of task) schema.parameters objects

-- an instance of one of the task's schemas (PDDL 1.2 manual, "Actions")
abbrev pub is_instance : Task → Instance → Bool
is_instance task i = option_map_or (λ schema. fits task schema i.objects) (slice_get task.schemas i.schema) false

-- the value of a function of objects: the first one given
abbrev pub value_in : List FunctionValue → Atom → Option ℕ
value_in [] f = None
value_in (v ∷ values) f = if eq_by_cmp atom_cmp f v.function then Some v.value else value_in values f

-- The amount of an increase under this binding (action costs, 2008): a function has the value that `:init` gives it, which no
-- action changes, and none if `:init` gives none.
abbrev pub amount_of : Task → Increase → List ℕ → Option ℕ
amount_of task (by_number amount) binding = Some amount
amount_of task (by_function f) binding = value_in task.values (ground_atom binding f)

-- the schema's cost increase has a value for these objects
abbrev pub has_amount : Task → Schema → List ℕ → Bool
has_amount task schema objects = is_some (amount_of task schema.increase objects)

-- The schema is applicable with these objects: its precondition holds (PDDL 1.2 manual, "Actions"), and its cost increase has a
-- value, since an effect by an undefined value is undefined (Fox & Long 2003, section 8), whether or not the total cost is
-- minimized.
abbrev pub can_apply : Task → Schema → List ℕ → State → Bool
can_apply task schema objects state = has_amount task schema objects && holds task schema.precondition objects state

-- The successor state: an action is applicable if it is an instance of a schema of the task, and the schema is applicable with
-- its objects (PDDL 1.2 manual, "Actions"; Fox & Long 2003, section 8).
abbrev pub step : Task → State → Instance → Option State
step task state i =
    option_and_then (λ schema.
    if fits task schema i.objects && can_apply task schema i.objects state then Some (after_changes task state (changes_of task schema.effect i.objects))
    else None)
    (slice_get task.schemas i.schema)

-- the goal holds; it has no free variables (PDDL 1.2 manual, "Problems")
abbrev pub meets_goal : Task → State → Bool
meets_goal task state = holds task task.goal [] state

-- The cost of an instance: if the total cost is minimized, the amount of its schema's increase (action costs, 2008), otherwise 1.
-- An instance without a value is never applicable, so its cost does not matter.
abbrev pub cost_of : Task → Instance → ℕ
cost_of task i =
    if task.has_metric then option_map_or (λ (s : Schema). unwrap_or (amount_of task s.increase i.objects) 0) (slice_get task.schemas i.schema) 0
    else 1

-- the task as a transition system
abbrev pub system_of : Task → System State Instance
system_of task = record {
  initial = initial_state task;
  step = step task;
  cost = cost_of task;
  meets_goal = meets_goal task;
}
