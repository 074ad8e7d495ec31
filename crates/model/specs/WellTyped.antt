-- Which resolved formulas, effects, atoms and tasks are well-typed (PDDL 1.2 manual, "Domains", "Actions", "Goal descriptions",
-- "Effects", "Problems"): each number is in range, each predicate has the arguments that its declaration requires, and the limits
-- of the language profile hold.
use Rattle.std.specs.Prelude.{Bool, true, false, ◌&&◌, nat_eq, nat_le, nat_lt, List, [], ◌∷◌, ◌++◌, length, slice_get}
use Rattle.std.specs.Cmp.Lexicographic.{pointwise}
use Rattle.std.specs.List.{list_all, list_any}
use Rattle.std.specs.Option.{option_map_or}
pub use Rattle.model.specs.Limits.{max_arguments, max_variables}
use Rattle.model.specs.Task.{ObjectType, Union, Predicate, Atom, LiftedAtom, Term, variable, object, Formula, Formulas, atom, equal, and, or, not, imply, exists, forall, no_formula, more_formulas, EffectLiteral, add, delete, Effect, Effects, literal, both, each, when, no_effect, more_effects, Increase, by_number, by_function, Schema, Task}
use Rattle.model.specs.Meaning.{supertypes_of, is_below, is_of}

-- A term may occur where an object of one of these types is required: an object that is of one, or a variable each of whose types
-- is one of them or a subtype of one. The list gives the types of the variables in scope.
abbrev pub is_term : Task → List Union → Union → Term → Bool
is_term task scope types (variable parameter) = option_map_or (list_all (is_below task types)) (slice_get scope parameter) false
is_term task scope types (object number) = is_of task types number

-- a term of any type: a variable in scope, or an object of the task
abbrev pub is_some_term : Task → List Union → Term → Bool
is_some_term task scope (variable number) = nat_lt number (length scope)
is_some_term task scope (object number) = nat_lt number (length task.objects)

-- one of these predicates, or functions, with a fitting term for each argument
abbrev pub is_lifted_of : List Predicate → Task → List Union → LiftedAtom → Bool
is_lifted_of declared task scope a =
    option_map_or (λ (p : Predicate). pointwise (is_term task scope) p.arguments a.terms) (slice_get declared a.predicate) false

-- a predicate of the task with a fitting term for each argument
abbrev pub is_lifted_atom : Task → List Union → LiftedAtom → Bool
is_lifted_atom task = is_lifted_of task.predicates task

-- a predicate of the task with a fitting object for each argument
abbrev pub is_atom : Task → Atom → Bool
is_atom task a =
    option_map_or (λ (p : Predicate). pointwise (is_of task) p.arguments a.objects) (slice_get task.predicates a.predicate) false

-- a formula with well-typed atoms and terms, and with no more variables in scope than allowed
abbrev mutual
  pub is_formula : Task → List Union → Formula → Bool
  is_formula task scope (atom a) = is_lifted_atom task scope a
  is_formula task scope (equal t u) = is_some_term task scope t && is_some_term task scope u
  is_formula task scope (and parts) = are_formulas task scope parts
  is_formula task scope (or parts) = are_formulas task scope parts
  is_formula task scope (not part) = is_formula task scope part
  is_formula task scope (imply premise conclusion) = is_formula task scope premise && is_formula task scope conclusion
  is_formula task scope (exists types part) = nat_lt (length scope) max_variables && is_formula task (scope ++ types ∷ []) part
  is_formula task scope (forall types part) = nat_lt (length scope) max_variables && is_formula task (scope ++ types ∷ []) part

  pub are_formulas : Task → List Union → Formulas → Bool
  are_formulas task scope no_formula = true
  are_formulas task scope (more_formulas first rest) = is_formula task scope first && are_formulas task scope rest

-- an effect's literal, and an effect, likewise
abbrev pub is_effect_literal : Task → List Union → EffectLiteral → Bool
is_effect_literal task scope (add a) = is_lifted_atom task scope a
is_effect_literal task scope (delete a) = is_lifted_atom task scope a

abbrev mutual
  pub is_effect : Task → List Union → Effect → Bool
  is_effect task scope (literal l) = is_effect_literal task scope l
  is_effect task scope (both parts) = are_effects task scope parts
  is_effect task scope (each types part) = nat_lt (length scope) max_variables && is_effect task (scope ++ types ∷ []) part
  is_effect task scope (when condition literals) = is_formula task scope condition && list_all (is_effect_literal task scope) literals

  pub are_effects : Task → List Union → Effects → Bool
  are_effects task scope no_effect = true
  are_effects task scope (more_effects first rest) = is_effect task scope first && are_effects task scope rest

-- an increase by a number, or by a function of the task with a fitting term for each argument
abbrev pub is_increase : Task → List Union → Increase → Bool
is_increase task scope (by_number amount) = true
is_increase task scope (by_function f) = is_lifted_of task.functions task scope f

-- a schema, with its parameters in scope
abbrev pub is_schema : Task → Schema → Bool
is_schema task s =
    (nat_le (length s.parameters) max_variables && is_increase task s.parameters s.increase)
    && is_formula task s.parameters s.precondition
    && is_effect task s.parameters s.effect

-- the supertypes of a type include those of its supertypes
abbrev pub is_whole_chain : Task → ObjectType → Bool
is_whole_chain task t = list_all (λ above. list_all (λ higher. list_any (nat_eq higher) t.supertypes) (supertypes_of task above)) t.supertypes

-- no more arguments than allowed
abbrev pub has_few_arguments : Predicate → Bool
has_few_arguments p = nat_le (length p.arguments) max_arguments

-- a task with well-typed types, predicates, functions, schemas and atoms, and a well-typed goal
abbrev pub is_task : Task → Bool
is_task task =
    list_all (is_whole_chain task) task.types
    && (list_all has_few_arguments task.predicates && list_all has_few_arguments task.functions)
    && list_all (is_schema task) task.schemas
    && list_all (is_atom task) task.init
    && is_formula task [] task.goal
