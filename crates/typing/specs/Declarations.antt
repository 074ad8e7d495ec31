-- The meaning of declared names, the faults of declarations, and the faults of the problem's statements, in the model's terms.
use Rattle.std.specs.Prelude.{◌≡◌, ℕ, List, [], ◌∷◌, ◌++◌, map}
use Rattle.std.specs.Global.{Vec}
use Rattle.std.specs.List.{flat_map}
use Rattle.task.specs.declared.atoms.TypeId.{TypeId}
use Rattle.typing.specs.DeclaredObjects.{AreObjectsOf}
use Rattle.typing.specs.declared.names.Names.{Names}
use Rattle.typing.specs.declared.names.Start.{Start}
use Rattle.typing.specs.declared.type_names.TypeTable.{TypeTable}
use Rattle.task.specs.declared.schemas.Predicate.{Predicate}
use Rattle.typing.specs.QuantifiedNames.{quantified_names}
use Rattle.typing.specs.Scope.{keys_in, names_in, narrow_atoms_in}
use Rattle.task.specs.TaskParts.{atom_of, formula_of, object_entry_of, predicate_of, type_entry_of, value_of}
use Rattle.model.specs.Trees as tree
use Rattle.model.specs.Trees.{TaskFile, problem_file}
use Rattle.model.specs.Typing.{first_filled, init_faults, formula_faults, function_faults, domain_name_faults, type_declaration_faults, cycle_faults, object_faults, declaration_faults, type_names, types_of, predicates_of, functions_of, values_after, formula_in, Known, TypingFault}

-- the faults of the types: those of the first phase that has any
abbrev pub type_faults_of : tree.Domain → tree.Problem → List TypingFault
type_faults_of d p = first_filled ((domain_name_faults d p ++ type_declaration_faults d) ∷ cycle_faults d ∷ [])

-- the faults of the declarations, and of the metric: those of the first phase that has any
abbrev pub declared_faults : tree.Domain → tree.Problem → List TypingFault
declared_faults d p =
    first_filled (type_faults_of d p ∷ object_faults d p ∷ declaration_faults (type_names d) d.predicates ∷ function_faults d p ∷ [])

-- the faults of the initial state of a file, or if it has none, those of the goal
abbrev pub stated_faults_in : TaskFile → Known → tree.Problem → List TypingFault
stated_faults_in file known p = first_filled (init_faults file known p.init ∷ formula_faults file known p.goal ∷ [])

-- the names visible with these types, objects, predicates and functions
abbrev pub known_in : TypeTable → List (Vec ℕ × TypeId) → List (Vec ℕ × Predicate) → List (Vec ℕ × Predicate) → Known
known_in t objects predicates functions = record {
  type_names = keys_in t.by_name.entries;
  types = map type_entry_of t.by_name.entries;
  predicates = map predicate_of predicates;
  functions = map predicate_of functions;
  variables = [];
  objects = map object_entry_of objects;
}

-- the names visible with these objects
abbrev pub known_in_names : Names → List (Vec ℕ × TypeId) → Known
known_in_names n objects = known_in n.types objects n.predicates.entries n.functions.entries

-- these are the types that the domain declares
pub record AreTypesOf (d : tree.Domain) (t : TypeTable) : Type 0 where
  pub names : keys_in t.by_name.entries ≡ type_names d
  pub all : map type_entry_of t.by_name.entries ≡ types_of d

-- these are the names that the pair declares
pub record AreNamesOf (d : tree.Domain) (p : tree.Problem) (n : Names) : Type 0 where
  pub types : AreTypesOf d n.types
  pub objects : AreObjectsOf d p n.objects
  pub predicates : map predicate_of n.predicates.entries ≡ predicates_of d
  pub functions : map predicate_of n.functions.entries ≡ functions_of d

-- the problem's statements have no fault, and these are its initial state and goal
pub record Starts (file : TaskFile) (known : Known) (p : tree.Problem) (s : Start) : Type 0 where
  pub right : stated_faults_in file known p ≡ []
  pub init : map atom_of s.init.items ≡ flat_map (narrow_atoms_in known) p.init
  pub values : map value_of s.values.entries ≡ values_after known [] p.init
  pub goal : formula_of s.goal.formula ≡ formula_in file known p.goal
  pub goal_names : names_in s.goal.names.items ≡ quantified_names p.goal
