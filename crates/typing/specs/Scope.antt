-- The meaning of names in formulas, effects and atoms, in the model's terms.
use Rattle.std.specs.Prelude.{◌≡◌, ℕ, List, [], ◌∷◌, map, take, ◌++◌, slice_get, Option}
use Rattle.std.specs.Global.{Vec}
use Rattle.std.specs.Option.{option_map_or}
use Rattle.task.specs.declared.schemas.TypeUnion.{TypeUnion}
use Rattle.typing.specs.declared.scope.Globals.{Globals}
use Rattle.typing.specs.declared.scope.Scope.{Scope}
pub use Rattle.task.specs.Names.{keys_in, names_in}
use Rattle.task.specs.TaskParts.{object_entry_of, predicate_of, type_entry_of, union_of}
use Rattle.model.specs.Task as task
use Rattle.model.specs.Trees as tree
use Rattle.model.specs.Trees.{TaskFile}
use Rattle.model.specs.Typing.{Known, TypingFault, Variable, atom_in, folded, term_faults, misfit_faults}

-- the table has one more entry, with this meaning of the name
abbrev pub IsAdded : {V : Type 0} → List (Vec ℕ × V) → List (Vec ℕ × V) → tree.Name → V → Type 0
IsAdded before after name value = (key : Vec ℕ) × (key.items ≡ folded name) × (after ≡ before ++ (key, value) ∷ [])

abbrev pub variable_entry_of : Vec ℕ × TypeUnion → Variable
variable_entry_of entry = record { name = entry.0.items; types = union_of entry.1 }

-- the variables that were in scope come first among those in scope now
abbrev pub BeginsWith : List (Vec ℕ × TypeUnion) → List (Vec ℕ × TypeUnion) → Type 0
BeginsWith before after = (more : List (Vec ℕ × TypeUnion)) × (after ≡ before ++ more)

-- the names visible in a file with these variables in scope
abbrev pub known_over : Globals → List (Vec ℕ × TypeUnion) → Known
known_over g variables = record {
  type_names = keys_in g.types.now.by_name.entries;
  types = map type_entry_of g.types.now.by_name.entries;
  predicates = map predicate_of g.predicates.now.entries;
  functions = map predicate_of g.functions.now.entries;
  variables = map variable_entry_of variables;
  objects = map object_entry_of g.objects.now.entries;
}

-- the names visible with no variable in scope
abbrev pub known_outside : Globals → Known
known_outside g = known_over g []

-- the names visible in an atom, whose first word is looked up in a table of its own
abbrev pub known_of : Scope → Known
known_of s = record (known_over s.globals.now s.variables.now.entries) { predicates = map predicate_of s.symbols.now.entries }

-- the types of each argument of the predicate with this number, if there is one
abbrev pub arguments_at : Known → ℕ → List task.Union
arguments_at known number = option_map_or (λ (p : task.Predicate). p.arguments) (slice_get known.predicates number) []

-- the faults of a term where this is required
abbrev pub argument_faults : TaskFile → Known → Option task.Union → tree.Term → List TypingFault
argument_faults file known required_types term = term_faults file known term ++ misfit_faults file known required_types term

-- an atom with at most as many of its objects as a predicate may have
abbrev pub narrow_atom_in : Known → tree.GroundAtom → task.Atom
narrow_atom_in known f = let a = atom_in known f in record { predicate = a.predicate; objects = take 8 a.objects }

-- the atoms of the initial state, each truncated in this way
abbrev pub narrow_atoms_in : Known → tree.Fact → List task.Atom
narrow_atoms_in known (tree.fact a) = narrow_atom_in known a ∷ []
narrow_atoms_in known (tree.negated word a) = []
narrow_atoms_in known (tree.initial_cost c) = []
narrow_atoms_in known (tree.initial_value v) = []
