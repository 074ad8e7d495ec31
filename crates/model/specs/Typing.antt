-- The faults of a domain and a problem, and which one is reported: the rules for types, declarations and uses (PDDL 1.2 manual,
-- "Domains", "Actions", "Goal descriptions", "Effects", "Problems"; action costs, 2008), with the limits of the language profile.
-- Each phase has a list of its faults. The first phase that has a fault reports it, since later phases depend on the declarations of
-- earlier ones.
use Rattle.std.specs.Prelude.{◌≡◌, ℕ, ◌+◌, ◌-◌, ◌<◌, ◌↔◌, Bool, true, false, not, ◌==◌, nat_le, List, [], ◌∷◌, ◌++◌, codes, length, map, filter, take, drop, slice_get, if◌then◌else◌, Option, None, Some, All, Contains}
use Rattle.std.specs.Cmp.Lexicographic.{slice_cmp}
use Rattle.std.specs.List.{flat_map, list_any}
use Rattle.std.specs.Option.{option_map_or}
use Rattle.std.specs.Ordering.{nat_cmp, is_lt}
use Rattle.model.specs.Limits.{max_types, max_objects, max_arguments, max_variables}
use Rattle.model.specs.Task as task
use Rattle.model.specs.Meaning.{value_in}
use Rattle.model.specs.Trees.{TaskFile, domain_file, problem_file, Name, Domain, Problem}
use Rattle.model.specs.Trees as tree
pub use Rattle.model.specs.Resolution.{folded, is_same, is_known, number_in, with_name, Declared, declared_in_group, declared, names_of, declared_types, declared_constants, declared_objects, type_names, union_in, type_in, parents_in, parents_of, Descends, itself, by_parent, DescendsFromItself, chain, whole_chain, types_from, types_of, Variable, Known, names_of_predicates, names_of_variables, names_of_objects, with_variable, variable_in, variables_after, unions_in, term_in, lifted_atom_in, exists_each, forall_each, exists_over, forall_over, known_with, formula_in, formulas_in, effect_literal_in, each_of, effect_in, effects_in, atom_in, atoms_in, is_named, values_in, with_value, values_after, object_in, constants_of, objects_of, predicate_in, predicates_of, functions_of, total_cost, has_cost, in_function, declares_cost, known_in_domain, known_in_action, known_in_problem, increase_in, increase_of, schema_in, task_of_trees, TypingFault, Placed, placed, words_of, equals_in, rank_of, predicate_in_known, fits_in, word_of, comes_back}

-- ---- faults

-- each of these words is refused with this number
abbrev pub refused : ℕ → List Placed → List TypingFault
refused code words = map (λ (w : Placed). record { file = w.file; fault = record { code = code; span = w.word.span } }) words

-- this word of the file is refused
abbrev pub refused_word : TaskFile → ℕ → Name → List TypingFault
refused_word file code word = record { file = file; fault = record { code = code; span = word.span } } ∷ []

-- the words that equal an earlier one, in the list or among these names
abbrev pub repeated_after : List task.Name → List Placed → List Placed
repeated_after before [] = []
repeated_after before (w ∷ rest) = (if is_known before w.word then w ∷ [] else []) ++ repeated_after (with_name before w.word) rest

abbrev pub repeated : List Placed → List Placed
repeated words = repeated_after [] words

-- the word after this many, if there are more
abbrev pub one_after : ℕ → List Placed → List Placed
one_after count words = take 1 (drop count words)

-- with this number, a name that is none of these
abbrev pub unknown_faults : TaskFile → ℕ → List task.Name → Name → List TypingFault
unknown_faults file code names name = if is_known names name then [] else refused_word file code name

-- 14: a type that is neither `object` nor declared
abbrev pub types_faults : List task.Name → Declared → List TypingFault
types_faults types x = flat_map (unknown_faults x.file 14 types) x.types

abbrev pub type_faults : List task.Name → List Declared → List TypingFault
type_faults types xs = flat_map (types_faults types) xs

-- 17: there is no declaration. 18: it has another number of arguments
abbrev pub faults_against : TaskFile → Option task.Predicate → Name → ℕ → List TypingFault
faults_against file None name count = refused_word file 17 name
faults_against file (Some p) name count = if count == length p.arguments then [] else refused_word file 18 name

-- for a predicate with this number of terms
abbrev pub predicate_faults : TaskFile → Known → Name → ℕ → List TypingFault
predicate_faults file known name count = faults_against file (predicate_in_known known name) name count

-- the types of each argument of a predicate, if it is known
abbrev pub arguments_in : Known → Name → List task.Union
arguments_in known name = option_map_or (λ (p : task.Predicate). p.arguments) (predicate_in_known known name) []

-- 17: an unknown variable or object
abbrev pub term_faults : TaskFile → Known → tree.Term → List TypingFault
term_faults file known (tree.variable name) = unknown_faults file 17 (names_of_variables known.variables) name
term_faults file known (tree.object name) = unknown_faults file 17 (names_of_objects known.objects) name

-- the term fits the required types, if there are any
abbrev pub fits_required : Known → Option task.Union → task.Term → Bool
fits_required known required_types term = option_map_or (λ types. fits_in known types term) required_types true

-- 19: a term that does not fit its argument, if there is such an argument
abbrev pub misfit_faults : TaskFile → Known → Option task.Union → tree.Term → List TypingFault
misfit_faults file known required_types term = if fits_required known required_types (term_in known term) then [] else refused_word file 19 (word_of term)

-- for terms at the positions of these arguments
abbrev pub terms_faults : TaskFile → Known → List task.Union → List tree.Term → List TypingFault
terms_faults file known arguments [] = []
terms_faults file known arguments (term ∷ terms) =
    term_faults file known term ++ misfit_faults file known (slice_get arguments 0) term ++ terms_faults file known (drop 1 arguments) terms

abbrev pub atom_faults : TaskFile → Known → tree.Atom → List TypingFault
atom_faults file known a =
    predicate_faults file known a.predicate (length a.terms) ++ terms_faults file known (arguments_in known a.predicate) a.terms

-- the words whose names are among these
abbrev pub known_among : List task.Name → List Placed → List Placed
known_among names words = filter (λ (w : Placed). is_known names w.word) words

-- the variable that makes 17 in scope, given how many are there already
abbrev pub one_too_many : ℕ → List Placed → List Placed
one_too_many count words = if nat_le count max_variables then one_after (max_variables - count) words else []

-- For a list of variables, given those in scope. 14: an unknown type. 16: a variable twice in the list. 20: one whose name is in
-- scope. 25: the one that makes 17 in scope.
abbrev pub variable_faults : List task.Name → List Variable → List Declared → List TypingFault
variable_faults types variables xs =
    type_faults types xs
    ++ refused 16 (repeated (words_of xs))
    ++ refused 20 (known_among (names_of_variables variables) (words_of xs))
    ++ refused 25 (one_too_many (length variables) (words_of xs))

abbrev mutual
  pub formula_faults : TaskFile → Known → tree.Formula → List TypingFault
  formula_faults file known (tree.atom a) = atom_faults file known a
  formula_faults file known (tree.equal t u) = term_faults file known t ++ term_faults file known u
  formula_faults file known (tree.and parts) = formulas_faults file known parts
  formula_faults file known (tree.or parts) = formulas_faults file known parts
  formula_faults file known (tree.not part) = formula_faults file known part
  formula_faults file known (tree.imply premise conclusion) = formula_faults file known premise ++ formula_faults file known conclusion
  formula_faults file known (tree.exists groups part) =
      variable_faults known.type_names known.variables (declared file groups) ++ formula_faults file (known_with known (declared file groups)) part
  formula_faults file known (tree.forall groups part) =
      variable_faults known.type_names known.variables (declared file groups) ++ formula_faults file (known_with known (declared file groups)) part

  pub formulas_faults : TaskFile → Known → tree.Formulas → List TypingFault
  formulas_faults file known tree.no_formula = []
  formulas_faults file known (tree.more_formulas first rest) =
      formula_faults file known first ++ formulas_faults file known rest

abbrev pub effect_literal_faults : TaskFile → Known → tree.EffectLiteral → List TypingFault
effect_literal_faults file known (tree.add a) = atom_faults file known a
effect_literal_faults file known (tree.delete a) = atom_faults file known a

abbrev mutual
  pub effect_faults : TaskFile → Known → tree.Effect → List TypingFault
  effect_faults file known (tree.literal l) = effect_literal_faults file known l
  effect_faults file known (tree.both parts) = effects_faults file known parts
  effect_faults file known (tree.each groups part) =
      variable_faults known.type_names known.variables (declared file groups) ++ effect_faults file (known_with known (declared file groups)) part
  effect_faults file known (tree.when condition literals) =
      formula_faults file known condition ++ flat_map (effect_literal_faults file known) literals

  pub effects_faults : TaskFile → Known → tree.Effects → List TypingFault
  effects_faults file known tree.no_effect = []
  effects_faults file known (tree.more_effects first rest) =
      effect_faults file known first ++ effects_faults file known rest

abbrev pub ground_atom_faults : TaskFile → Known → tree.GroundAtom → List TypingFault
ground_atom_faults file known a =
    predicate_faults file known a.predicate (length a.objects)
    ++ terms_faults file known (arguments_in known a.predicate) (map (λ (name : Name). tree.object name) a.objects)

-- 23: the total cost if it is not declared, and an initial value other than 0
abbrev pub initial_cost_faults : TaskFile → Known → tree.InitialCost → List TypingFault
initial_cost_faults file known c =
    (if has_cost known then [] else refused_word file 23 c.function) ++ (if c.amount == 0 then [] else refused_word file 23 c.number)

-- 24: the word `not`
abbrev pub fact_faults : TaskFile → Known → tree.Fact → List TypingFault
fact_faults file known (tree.fact a) = ground_atom_faults file known a
fact_faults file known (tree.negated word a) = refused_word file 24 word
fact_faults file known (tree.initial_cost c) = initial_cost_faults file known c
fact_faults file known (tree.initial_value v) = ground_atom_faults file (in_function known) v.function

-- 16: a value that differs from the one given before
abbrev pub differing : List task.FunctionValue → task.FunctionValue → Bool
differing given v = option_map_or (λ value. not (value == v.value)) (value_in given v.function) false

abbrev pub value_faults : TaskFile → Known → List task.FunctionValue → tree.Fact → List TypingFault
value_faults file known given (tree.initial_value v) =
    if list_any (differing given) (values_in known (tree.initial_value v)) then refused_word file 16 v.function.predicate else []
value_faults file known given _ = []

-- for facts, given the values before them
abbrev pub facts_faults : TaskFile → Known → List task.FunctionValue → List tree.Fact → List TypingFault
facts_faults file known given [] = []
facts_faults file known given (f ∷ facts) =
    fact_faults file known f ++ value_faults file known given f ++ facts_faults file known (values_after known given (f ∷ [])) facts

-- 23 also for each `=` after the first
abbrev pub init_faults : TaskFile → Known → List tree.Fact → List TypingFault
init_faults file known facts = facts_faults file known [] facts ++ refused 23 (drop 1 (equals_in file facts))

-- 21: the problem is for a domain with another name
abbrev pub domain_name_faults : Domain → Problem → List TypingFault
domain_name_faults d p = if is_same (folded p.domain) (folded d.name) then [] else refused_word problem_file 21 p.domain

-- 16: a type declared before, or `object`. 14: a parent that is neither `object` nor declared. 25: the first one beyond
-- the limit
abbrev pub type_declaration_faults : Domain → List TypingFault
type_declaration_faults d =
    refused 16 (repeated_after (codes "object" ∷ []) (words_of (declared_types d)))
    ++ type_faults (type_names d) (declared_types d)
    ++ refused 25 (one_after max_types (words_of (declared_types d)))

-- 15: a type that is its own ancestor, if the first of these types has this number
abbrev pub cycle_faults_from : List ℕ → ℕ → List Declared → List TypingFault
cycle_faults_from parents number [] = []
cycle_faults_from parents number (x ∷ xs) =
    (if comes_back parents number then refused_word x.file 15 x.name else []) ++ cycle_faults_from parents (number + 1) xs

abbrev pub cycle_faults : Domain → List TypingFault
cycle_faults d = cycle_faults_from (parents_of d) 1 (declared_types d)

-- 14: an unknown type. 16: a constant or object declared before, in either file. 25: the first one beyond the limit
abbrev pub objects_faults : List task.Name → List Declared → List TypingFault
objects_faults types xs =
    type_faults types xs ++ refused 16 (repeated (words_of xs)) ++ refused 25 (one_after max_objects (words_of xs))

abbrev pub object_faults : Domain → Problem → List TypingFault
object_faults d p = objects_faults (type_names d) (declared_objects d p)

-- 14: an unknown type. 25: the first argument beyond the limit
abbrev pub argument_faults : List task.Name → tree.Predicate → List TypingFault
argument_faults types q =
    type_faults types (declared domain_file q.parameters)
    ++ refused 25 (one_after max_arguments (words_of (declared domain_file q.parameters)))

-- 16: a predicate, or a function, declared before; also the faults of its arguments
abbrev pub declaration_faults : List task.Name → List tree.Predicate → List TypingFault
declaration_faults types qs =
    refused 16 (repeated (map (λ (q : tree.Predicate). placed domain_file q.name) qs)) ++ flat_map (argument_faults types) qs

-- the words `increase` of an action
abbrev pub increase_words : TaskFile → tree.Action → List Placed
increase_words file a = map (λ (i : tree.Increase). placed file i.word) a.increases

-- 23: each `increase` after the first, and each if the total cost is not declared
abbrev pub increase_faults : TaskFile → Known → tree.Action → List TypingFault
increase_faults file known a = refused 23 (drop (if has_cost known then 1 else 0) (increase_words file a))

-- for the function of an increase
abbrev pub amount_faults : TaskFile → Known → tree.Amount → List TypingFault
amount_faults file known (tree.by_number n) = []
amount_faults file known (tree.by_function f) = atom_faults file (in_function known) f

-- the faults of the precondition and of the effect
abbrev pub body_faults : TaskFile → Known → tree.Action → List TypingFault
body_faults file known a =
    formula_faults file known a.precondition ++ effect_faults file known a.effect ++ increase_faults file known a
    ++ flat_map (λ (i : tree.Increase). amount_faults file known i.amount) a.increases

abbrev pub schema_faults : Known → tree.Action → List TypingFault
schema_faults known a =
    variable_faults known.type_names [] (declared domain_file a.parameters) ++ body_faults domain_file (known_in_action known a) a

-- 16: an action declared before; also the faults of each action
abbrev pub action_faults : Known → List tree.Action → List TypingFault
action_faults known as' =
    refused 16 (repeated (map (λ (a : tree.Action). placed domain_file a.name) as')) ++ flat_map (schema_faults known) as'

-- the faults of the declarations of functions, in a name space of their own. 22: `total-cost` in `:metric`, if it is not declared
abbrev pub function_faults : Domain → Problem → List TypingFault
function_faults d p =
    declaration_faults (type_names d) d.functions
    ++ option_map_or (λ n. if declares_cost d then [] else refused_word problem_file 22 n) p.metric []

-- The faults of each phase, phase by phase: the names of the domain and of the types, the cycles of types, the objects,
-- the predicates, the functions, the actions, the initial state and the goal.
abbrev pub phases : Domain → Problem → List (List TypingFault)
phases d p =
    (domain_name_faults d p ++ type_declaration_faults d)
    ∷ cycle_faults d
    ∷ object_faults d p
    ∷ declaration_faults (type_names d) d.predicates
    ∷ function_faults d p
    ∷ action_faults (known_in_domain d) d.actions
    ∷ init_faults problem_file (known_in_problem d p) p.init
    ∷ formula_faults problem_file (known_in_problem d p) p.goal
    ∷ []

-- the first of the lists that is not empty
abbrev pub first_filled : List (List TypingFault) → List TypingFault
first_filled [] = []
first_filled ([] ∷ later) = first_filled later
first_filled ((f ∷ more) ∷ later) = f ∷ more

-- The faults of the pair: those of the first phase that has any. Later phases are not examined then, since they depend on the
-- declarations before them.
abbrev pub faults_of : Domain → Problem → List TypingFault
faults_of d p = first_filled (phases d p)

-- no phase has a fault
abbrev pub IsWellTyped : Domain → Problem → Type 0
IsWellTyped d p = faults_of d p ≡ []

-- the fault is one of the pair: one of some phase, be it the first phase that has any or a later one
abbrev pub IsFaultOf : Domain → Problem → TypingFault → Type 0
IsFaultOf d p f = (faults : List TypingFault) × Contains (phases d p) faults × Contains faults f

-- ---- which fault is reported

abbrev pub key_of : TypingFault → List ℕ
key_of f = rank_of f.file ∷ f.fault.span.start ∷ f.fault.code ∷ []

-- the domain before the problem, then the least start, then the lower number
abbrev pub is_before : TypingFault → TypingFault → Bool
is_before f g = is_lt (slice_cmp nat_cmp (key_of f) (key_of g))

-- the fault is one of these, and none of them comes before it
pub record IsLeastOf (faults : List TypingFault) (f : TypingFault) : Type 0 where
  pub is_fault : Contains faults f
  pub is_least : All (λ g. is_before g f ≡ false) faults

-- the fault is reported for the pair: it belongs to the first phase that has any, and none of that phase comes before it
abbrev pub IsReported : Domain → Problem → TypingFault → Type 0
IsReported d p f = IsLeastOf (faults_of d p) f

-- ---- types and their ancestors

-- in a well-typed pair, the supertypes of a type are exactly its ancestors, itself included
abbrev pub SupertypesAreThoseAbove : Type 0
SupertypesAreThoseAbove =
    (d : Domain) (p : Problem) → IsWellTyped d p → (number : ℕ) (t : task.ObjectType) → slice_get (types_of d) number ≡ Some t
    → (above : ℕ) → Contains t.supertypes above ↔ Descends (parents_of d) number above

-- the types that are refused as their own ancestors are exactly those that descend from themselves; the first declared one is 1
abbrev pub CyclesAreOfAncestors : Type 0
CyclesAreOfAncestors =
    (d : Domain) (number : ℕ) → 0 < number → number < length (parents_of d)
    → (comes_back (parents_of d) number ≡ true) ↔ DescendsFromItself (parents_of d) number
