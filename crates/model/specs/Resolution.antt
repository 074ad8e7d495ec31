-- Name resolution for a domain and a problem: which names are equal, what typed lists declare, the types and their supertypes,
-- which names are visible where, and the task of the pair. The rules are those for types, declarations and uses (PDDL 1.2 manual,
-- "Domains", "Actions", "Goal descriptions", "Effects", "Problems"). `Typing` defines the faults of a pair on this basis.
use Rattle.std.specs.Prelude.{◌≡◌, ℕ, zero, suc, ◌+◌, Bool, true, ◌&&◌, ◌==◌, nat_eq, nat_le, List, [], ◌∷◌, ◌++◌, codes, length, map, fold, slice_get, slice_index, is_some, if◌then◌else◌, Option, Some}
use Rattle.std.specs.Char.{to_ascii_lowercase}
use Rattle.std.specs.Cmp.Lexicographic.{pointwise}
use Rattle.std.specs.List.{flat_map, list_all, list_any, position_or_len}
use Rattle.std.specs.Option.{option_map_or}
use Rattle.model.specs.Fault.{Fault}
use Rattle.model.specs.Task as task
use Rattle.model.specs.Limits.{max_arguments}
use Rattle.model.specs.Meaning.{is_below_in, value_in}
use Rattle.model.specs.Trees.{TaskFile, domain_file, problem_file, Name, Group, Domain, Problem}
use Rattle.model.specs.Trees as tree

-- ---- names

-- a name in lower case, as names are compared (PDDL 1.2 manual, "Domains": case does not matter in names)
abbrev pub folded : Name → task.Name
folded name = map to_ascii_lowercase name.text

-- the names are equal
abbrev pub is_same : task.Name → task.Name → Bool
is_same = pointwise ◌==◌

-- whether the name is one of these
abbrev pub is_known : List task.Name → Name → Bool
is_known names name = list_any (is_same (folded name)) names

-- the number of a name: the index of the first equal one, or the number of names if there is none
abbrev pub number_in : List task.Name → Name → ℕ
number_in names name = position_or_len (is_same (folded name)) names

-- these names and one more, unless it is there already
abbrev pub with_name : List task.Name → Name → List task.Name
with_name names name = if is_known names name then names else names ++ folded name ∷ []

-- ---- what typed lists declare

-- a name declared in a typed list, with the types after its `-`
pub record Declared : Type 0 where
  pub file : TaskFile
  pub name : Name
  pub types : List Name

-- the declarations of one group
abbrev pub declared_in_group : TaskFile → Group → List Declared
declared_in_group file g = map (λ (name : Name). record { file = file; name = name; types = g.types }) g.names

-- the declarations of a typed list, in order
abbrev pub declared : TaskFile → List Group → List Declared
declared file groups = flat_map (declared_in_group file) groups

-- the declared names
abbrev pub names_of : List Declared → List Name
names_of xs = map (λ (x : Declared). x.name) xs

-- the declarations of `:types` and `:constants`
abbrev pub declared_types : Domain → List Declared
declared_types d = declared domain_file d.types

abbrev pub declared_constants : Domain → List Declared
declared_constants d = declared domain_file d.constants

-- the constants and the objects, which share a name space
abbrev pub declared_objects : Domain → Problem → List Declared
declared_objects d p = declared_constants d ++ declared problem_file p.objects

-- ---- types

-- The names of all types: `object`, and then the declared ones, without repetition.
abbrev pub type_names : Domain → List task.Name
type_names d = fold with_name (codes "object" ∷ []) (names_of (declared_types d))

-- the numbers of the types after a `-`; `object` if there are none
abbrev pub union_in : List task.Name → List Name → task.Union
union_in types [] = 0 ∷ []
union_in types (first ∷ others) = map (number_in types) (first ∷ others)

-- the number of the type after a `-`, or that of `object`
abbrev pub type_in : List task.Name → List Name → ℕ
type_in types [] = 0
type_in types (first ∷ others) = number_in types first

-- the parents of `object` and of these types, by number; `object` is its own parent
abbrev pub parents_in : List task.Name → List Declared → List ℕ
parents_in types xs = 0 ∷ map (λ (x : Declared). type_in types x.types) xs

-- the parents of a domain's types
abbrev pub parents_of : Domain → List ℕ
parents_of d = parents_in (type_names d) (declared_types d)

-- The first type is a descendant of the second: it is that one, or its parent is a descendant (PDDL 1.2 manual, "Domains").
pub data Descends (parents : List ℕ) : ℕ → ℕ → Type 0 where
  itself : (type : ℕ) → Descends parents type type
  by_parent : (type parent above : ℕ) → slice_get parents type ≡ Some parent → Descends parents parent above → Descends parents type above

-- the type is its own proper ancestor: its parent is a descendant of it
pub record DescendsFromItself (parents : List ℕ) (type : ℕ) : Type 0 where
  pub parent : ℕ
  pub is_parent : slice_get parents type ≡ Some parent
  pub descends : Descends parents parent type

-- The ancestors of a type, in order: itself and its chain of parents, up to `object`; for a cyclic chain, a limited number of
-- them.
abbrev pub chain : List ℕ → ℕ → ℕ → List ℕ
chain parents zero number = []
chain parents (suc most) zero = zero ∷ []
chain parents (suc most) (suc number) = suc number ∷ chain parents most (slice_index parents (suc number))

-- a chain without a cycle is no longer than the number of types
abbrev pub whole_chain : List ℕ → ℕ → List ℕ
whole_chain parents number = chain parents (length parents) number

abbrev pub types_from : List ℕ → ℕ → List task.Name → List task.ObjectType
types_from parents number [] = []
types_from parents number (name ∷ names) = record { name = name; supertypes = whole_chain parents number } ∷ types_from parents (number + 1) names

-- the types of the task
abbrev pub types_of : Domain → List task.ObjectType
types_of d = types_from (parents_of d) 0 (type_names d)

-- ---- the task of a domain and a problem

-- a variable in scope, and its types
pub record Variable : Type 0 where
  pub name : task.Name
  pub types : task.Union

-- the names visible at the place of a formula, an effect or an atom
pub record Known : Type 0 where
  pub type_names : List task.Name
  pub types : List task.ObjectType
  pub predicates : List task.Predicate
  pub functions : List task.Predicate
  pub variables : List Variable
  pub objects : List task.Object

abbrev pub names_of_predicates : List task.Predicate → List task.Name
names_of_predicates predicates = map (λ (p : task.Predicate). p.name) predicates

-- the name of the total cost among the functions (action costs, 2008)
abbrev pub total_cost : task.Name
total_cost = codes "total-cost"

-- whether the total cost is declared
abbrev pub has_cost : Known → Bool
has_cost known = list_any (is_same total_cost) (names_of_predicates known.functions)

-- The names visible in a function of terms or objects: its name is that of a function instead of a predicate, and all else is as
-- in an atom (Fox & Long 2003, "Numeric Expressions").
abbrev pub in_function : Known → Known
in_function known = record known { predicates = known.functions }

abbrev pub names_of_variables : List Variable → List task.Name
names_of_variables variables = map (λ (v : Variable). v.name) variables

abbrev pub names_of_objects : List task.Object → List task.Name
names_of_objects objects = map (λ (o : task.Object). o.name) objects

-- these variables and one more, unless its name is there already: the first declaration counts
abbrev pub with_variable : List Variable → Variable → List Variable
with_variable variables v = if list_any (is_same v.name) (names_of_variables variables) then variables else variables ++ v ∷ []

abbrev pub variable_in : List task.Name → Declared → Variable
variable_in types x = record { name = folded x.name; types = union_in types x.types }

-- these variables and the declared ones, without repetition
abbrev pub variables_after : List task.Name → List Variable → List Declared → List Variable
variables_after types variables xs = fold with_variable variables (map (variable_in types) xs)

-- the types of the variables, in order
abbrev pub unions_in : List task.Name → List Declared → List task.Union
unions_in types xs = map (λ (x : Declared). union_in types x.types) xs

-- a term, an atom and a literal with numbers for their names
abbrev pub term_in : Known → tree.Term → task.Term
term_in known (tree.variable name) = task.variable (number_in (names_of_variables known.variables) name)
term_in known (tree.object name) = task.object (number_in (names_of_objects known.objects) name)

abbrev pub lifted_atom_in : Known → tree.Atom → task.LiftedAtom
lifted_atom_in known a = record {
  predicate = number_in (names_of_predicates known.predicates) a.predicate;
  terms = map (term_in known) a.terms;
}

-- nested quantifiers for variables of these types, the first outermost
abbrev pub exists_each : List task.Union → task.Formula → task.Formula
exists_each [] part = part
exists_each (types ∷ others) part = task.exists types (exists_each others part)

abbrev pub forall_each : List task.Union → task.Formula → task.Formula
forall_each [] part = part
forall_each (types ∷ others) part = task.forall types (forall_each others part)

-- The quantifier of a file over variables of these types (PDDL 1.2 manual, "Goal descriptions"). Over no variables it is
-- equivalent to its part but still encloses it: `exists` as an `or` with a single part, `forall` as an `and`.
abbrev pub exists_over : List task.Union → task.Formula → task.Formula
exists_over [] part = task.or (task.more_formulas part task.no_formula)
exists_over (types ∷ others) part = exists_each (types ∷ others) part

abbrev pub forall_over : List task.Union → task.Formula → task.Formula
forall_over [] part = task.and (task.more_formulas part task.no_formula)
forall_over (types ∷ others) part = forall_each (types ∷ others) part

-- the names visible if these variables are in scope too
abbrev pub known_with : Known → List Declared → Known
known_with known xs = record known { variables = variables_after known.type_names known.variables xs }

-- A formula with numbers for its names (PDDL 1.2 manual, "Goal descriptions"). The variables of a quantifier are in scope
-- in its part.
abbrev mutual
  pub formula_in : TaskFile → Known → tree.Formula → task.Formula
  formula_in file known (tree.atom a) = task.atom (lifted_atom_in known a)
  formula_in file known (tree.equal t u) = task.equal (term_in known t) (term_in known u)
  formula_in file known (tree.and parts) = task.and (formulas_in file known parts)
  formula_in file known (tree.or parts) = task.or (formulas_in file known parts)
  formula_in file known (tree.not part) = task.not (formula_in file known part)
  formula_in file known (tree.imply premise conclusion) = task.imply (formula_in file known premise) (formula_in file known conclusion)
  formula_in file known (tree.exists groups part) =
      exists_over (unions_in known.type_names (declared file groups)) (formula_in file (known_with known (declared file groups)) part)
  formula_in file known (tree.forall groups part) =
      forall_over (unions_in known.type_names (declared file groups)) (formula_in file (known_with known (declared file groups)) part)

  pub formulas_in : TaskFile → Known → tree.Formulas → task.Formulas
  formulas_in file known tree.no_formula = task.no_formula
  formulas_in file known (tree.more_formulas first rest) = task.more_formulas (formula_in file known first) (formulas_in file known rest)

-- a literal of an effect
abbrev pub effect_literal_in : Known → tree.EffectLiteral → task.EffectLiteral
effect_literal_in known (tree.add a) = task.add (lifted_atom_in known a)
effect_literal_in known (tree.delete a) = task.delete (lifted_atom_in known a)

-- nested `forall`s for variables of these types
abbrev pub each_of : List task.Union → task.Effect → task.Effect
each_of [] part = part
each_of (types ∷ others) part = task.each types (each_of others part)

-- an effect with numbers for its names (PDDL 1.2 manual, "Effects")
abbrev mutual
  pub effect_in : TaskFile → Known → tree.Effect → task.Effect
  effect_in file known (tree.literal l) = task.literal (effect_literal_in known l)
  effect_in file known (tree.both parts) = task.both (effects_in file known parts)
  effect_in file known (tree.each groups part) =
      each_of (unions_in known.type_names (declared file groups)) (effect_in file (known_with known (declared file groups)) part)
  effect_in file known (tree.when condition literals) = task.when (formula_in file known condition) (map (effect_literal_in known) literals)

  pub effects_in : TaskFile → Known → tree.Effects → task.Effects
  effects_in file known tree.no_effect = task.no_effect
  effects_in file known (tree.more_effects first rest) = task.more_effects (effect_in file known first) (effects_in file known rest)

-- an atom of `:init`
abbrev pub atom_in : Known → tree.GroundAtom → task.Atom
atom_in known a = record {
  predicate = number_in (names_of_predicates known.predicates) a.predicate;
  objects = map (number_in (names_of_objects known.objects)) a.objects;
}

-- the atoms of the initial state; a negated one is a fault, and the initial total cost and values of functions are not atoms
abbrev pub atoms_in : Known → tree.Fact → List task.Atom
atoms_in known (tree.fact a) = atom_in known a ∷ []
atoms_in known (tree.negated word a) = []
atoms_in known (tree.initial_cost c) = []
atoms_in known (tree.initial_value v) = []

-- all names in the atom are known, and it does not have too many objects
abbrev pub is_named : Known → tree.GroundAtom → Bool
is_named known a =
    is_known (names_of_predicates known.predicates) a.predicate
    && nat_le (length a.objects) max_arguments
    && list_all (is_known (names_of_objects known.objects)) a.objects

-- the value that a fact gives, if it gives one and all its names are known
abbrev pub values_in : Known → tree.Fact → List task.FunctionValue
values_in known (tree.initial_value v) =
    if is_named (in_function known) v.function then record { function = atom_in (in_function known) v.function; value = v.value } ∷ [] else []
values_in known _ = []

-- these values and one more, unless its function of these objects already has one
abbrev pub with_value : List task.FunctionValue → task.FunctionValue → List task.FunctionValue
with_value values v = if is_some (value_in values v.function) then values else values ++ v ∷ []

-- the values that these facts add to earlier ones, one for each function of the same objects
abbrev pub values_after : Known → List task.FunctionValue → List tree.Fact → List task.FunctionValue
values_after known given facts = fold with_value given (flat_map (values_in known) facts)

-- an object, with its type
abbrev pub object_in : List task.Name → Declared → task.Object
object_in types x = record { name = folded x.name; type = type_in types x.types }

-- the domain's constants
abbrev pub constants_of : Domain → List task.Object
constants_of d = map (object_in (type_names d)) (declared_constants d)

-- the domain's constants, and then the problem's objects
abbrev pub objects_of : Domain → Problem → List task.Object
objects_of d p = map (object_in (type_names d)) (declared_objects d p)

-- a predicate, or a function, with the types of its arguments; those of the domain
abbrev pub predicate_in : List task.Name → tree.Predicate → task.Predicate
predicate_in types p = record { name = folded p.name; arguments = unions_in types (declared domain_file p.parameters) }

abbrev pub predicates_of : Domain → List task.Predicate
predicates_of d = map (predicate_in (type_names d)) d.predicates

abbrev pub functions_of : Domain → List task.Predicate
functions_of d = map (predicate_in (type_names d)) d.functions

-- in the domain: its declarations
abbrev pub known_in_domain : Domain → Known
known_in_domain d = record {
  type_names = type_names d;
  types = types_of d;
  predicates = predicates_of d;
  functions = functions_of d;
  variables = [];
  objects = constants_of d;
}

-- the domain declares the total cost
abbrev pub declares_cost : Domain → Bool
declares_cost d = has_cost (known_in_domain d)

-- in an action: the domain's declarations and the action's parameters
abbrev pub known_in_action : Known → tree.Action → Known
known_in_action known a = record known { variables = variables_after known.type_names [] (declared domain_file a.parameters) }

-- in the initial state and the goal: the domain's declarations and the problem's objects
abbrev pub known_in_problem : Domain → Problem → Known
known_in_problem d p = record {
  type_names = type_names d;
  types = types_of d;
  predicates = predicates_of d;
  functions = functions_of d;
  variables = [];
  objects = objects_of d p;
}

-- the amount of an increase
abbrev pub increase_in : Known → tree.Amount → task.Increase
increase_in known (tree.by_number n) = task.by_number n
increase_in known (tree.by_function f) = task.by_function (lifted_atom_in (in_function known) f)

-- the amount by which an action increases the total cost; 0 if it does not
abbrev pub increase_of : Known → tree.Action → task.Increase
increase_of known a = option_map_or (λ (i : tree.Increase). increase_in known i.amount) (slice_get a.increases 0) (task.by_number 0)

-- an action, given the names visible in the domain (PDDL 1.2 manual, "Actions")
abbrev pub schema_in : Known → tree.Action → task.Schema
schema_in known a = record {
  name = folded a.name;
  parameters = unions_in known.type_names (declared domain_file a.parameters);
  precondition = formula_in domain_file (known_in_action known a) a.precondition;
  effect = effect_in domain_file (known_in_action known a) a.effect;
  increase = increase_of (known_in_action known a) a;
}

-- the task of a well-typed pair, with a number for each name
abbrev pub task_of_trees : Domain → Problem → task.Task
task_of_trees d p = record {
  types = types_of d;
  objects = objects_of d p;
  predicates = predicates_of d;
  functions = functions_of d;
  schemas = map (schema_in (known_in_domain d)) d.actions;
  init = flat_map (atoms_in (known_in_problem d p)) p.init;
  values = values_after (known_in_problem d p) [] p.init;
  goal = formula_in problem_file (known_in_problem d p) p.goal;
  has_metric = is_some p.metric;
}

-- ---- words and faults

-- a fault of a pair of trees: its file, its number, and the span of the refused word
pub record TypingFault : Type 0 where
  pub file : TaskFile
  pub fault : Fault

-- a word of one of the files
pub record Placed : Type 0 where
  pub file : TaskFile
  pub word : Name

abbrev pub placed : TaskFile → Name → Placed
placed file word = record { file = file; word = word }

-- the words of declarations
abbrev pub words_of : List Declared → List Placed
words_of xs = map (λ (x : Declared). placed x.file x.name) xs

-- the words `=` in the initial state
abbrev pub equals_in : TaskFile → List tree.Fact → List Placed
equals_in file [] = []
equals_in file (tree.initial_cost c ∷ facts) = placed file c.equals ∷ equals_in file facts
equals_in file (other ∷ facts) = equals_in file facts

-- the domain comes before the problem
abbrev pub rank_of : TaskFile → ℕ
rank_of domain_file = 0
rank_of problem_file = 1

-- ---- what the typing rules look up

-- the declaration of a predicate (or of a function, inside one), if there is one
abbrev pub predicate_in_known : Known → Name → Option task.Predicate
predicate_in_known known name = slice_get known.predicates (number_in (names_of_predicates known.predicates) name)

-- A term fits an argument of these types: a variable if each of its types is one of them or a subtype of one, an object if its
-- type is. Unknown terms fit.
abbrev pub fits_in : Known → task.Union → task.Term → Bool
fits_in known required_types (task.variable number) =
    option_map_or (λ (v : Variable). list_all (is_below_in known.types required_types) v.types) (slice_get known.variables number) true
fits_in known required_types (task.object number) =
    option_map_or (λ (o : task.Object). is_below_in known.types required_types o.type) (slice_get known.objects number) true

-- the word of a term
abbrev pub word_of : tree.Term → Name
word_of (tree.variable name) = name
word_of (tree.object name) = name

-- the type with this number is on the chain of its own parent, so it is its own ancestor
abbrev pub comes_back : List ℕ → ℕ → Bool
comes_back parents number = list_any (nat_eq number) (whole_chain parents (slice_index parents number))
