-- The parts that the phases produce are those of the trees' task, if no phase has a fault.
use Rattle.std.proofs.Common.{◌≡◌, ℕ, ◌+◌, ◌≤◌, ◌<◌, true, false, is_some, drop, List, [], ◌∷◌, ◌++◌, codes, map, length, slice_get, slice_index, nat_le, refl, ap, sym, subst, ◌∙◌, arith, zero, suc, Some}
use Rattle.std.specs.Prelude.{◌↔◌, Contains}
use Rattle.std.specs.List.{flat_map, list_all}
use Rattle.std.proofs.lemmas.Bool.Decides.{nat_tests}
use Rattle.std.proofs.lemmas.List.{length-map, take_all, map-append}
use Rattle.model.specs.Task as task
use Rattle.model.specs.Trees as tree
use Rattle.model.specs.Trees.{TaskFile, domain_file, problem_file}
use Rattle.model.specs.Typing.{TypingFault, Declared, Known, folded, names_of, names_of_objects, number_in, type_in, type_names, parents_of, types_of, Descends, whole_chain, comes_back, type_faults, words_of, one_after, refused, repeated, repeated_after, predicate_faults, terms_faults, arguments_in, ground_atom_faults, initial_cost_faults, fact_faults, facts_faults, init_faults, function_faults, formula_faults, domain_name_faults, type_declaration_faults, cycle_faults, object_faults, declaration_faults, action_faults, argument_faults, schema_faults, atom_in, atoms_in, object_in, declared_types, declared_constants, declared, equals_in, in_function, predicate_in, predicates_of, functions_of, objects_of, schema_in, values_after, formula_in, known_in_domain, known_in_problem, task_of_trees, faults_of, first_filled, IsWellTyped}
use Rattle.model.specs.WellTyped.{is_task}
use Rattle.model.proofs.Tests.{passes_got}
use Rattle.typing.specs.declared.names.Names.{Names}
use Rattle.typing.specs.Declarations.{declared_faults, known_in_names, stated_faults_in, type_faults_of, AreNamesOf}
use Rattle.task.specs.TaskParts.{atom_of, formula_of, object_entry_of, predicate_of, schema_of, task_of_parts, type_entry_of, value_of}
use Rattle.task.specs.declared.parts.TaskParts.{TaskParts}
use Rattle.typing.specs.Scope.{narrow_atoms_in}
use Rattle.typing.proofs.Empty.{nil_left, nil_right, not_refused, and_true}
use Rattle.typing.proofs.ParentChains.{all_whole, descends_on_chain, type_at, among_Contains, Contains_among}
use Rattle.typing.proofs.Declared.{names_are}
use Rattle.typing.proofs.Declaring.{parents_low, none_comes_back}
use Rattle.typing.proofs.WellTyped.{Fits, declared_count, arities_fit, schemas_fit, facts_fit, own_faults, formula_fits}

-- ---- objects

pub got_first : {X : Type 0} (xs ys : List X) (n : ℕ) (x : X) → slice_get xs n ≡ Some x → slice_get (xs ++ ys) n ≡ Some x
got_first [] ys n x e = absurd (cc)
got_first (y ∷ xs) ys zero x e = e
got_first (y ∷ xs) ys (suc n) x e = got_first xs ys n x e

next : (k : ℕ) → suc k ≡ 1 + k
next k = omega arith

-- ---- atoms

few_at : (count : ℕ) → nat_le count 8 ≡ true → count ≤ 8
few_at count few = grind (arith, nat_tests)

-- no atom has more objects than are kept
narrow_is_all : (file : TaskFile) (known : Known) → list_all (λ (p : task.Predicate). nat_le (length p.arguments) 8) known.predicates ≡ true → (fs : List tree.Fact) → flat_map (fact_faults file known) fs ≡ []
    → flat_map (narrow_atoms_in known) fs ≡ flat_map (atoms_in known) fs
narrow_is_all file known low [] e = refl
narrow_is_all file known low (tree.fact a ∷ fs) e =
    let faults = predicate_faults file known a.predicate (length a.objects) in
    let terms = terms_faults file known (arguments_in known a.predicate) (map (λ (n : tree.Name). tree.object n) a.objects) in
    let own = nil_left (ground_atom_faults file known a) (flat_map (fact_faults file known) fs) e in
    let found = declared_count file known a.predicate (length a.objects) (nil_left faults terms own) in
    let few = few_at (length found.0.arguments) (passes_got (λ (p : task.Predicate). nat_le (length p.arguments) 8) known.predicates _ found.0 found.1 low) in
    let number = number_in (names_of_objects known.objects) in
    let whole = take_all 8 (map number a.objects) (omega (arith, length-map a.objects number, found.2, few)) in
    let rest = narrow_is_all file known low fs (nil_right (ground_atom_faults file known a) (flat_map (fact_faults file known) fs) e) in
    λ i. record { predicate = (atom_in known a).predicate; objects = whole i } ∷ rest i
narrow_is_all file known low (tree.negated word a ∷ fs) e = absurd (cc)
narrow_is_all file known low (tree.initial_cost c ∷ fs) e = narrow_is_all file known low fs (nil_right (initial_cost_faults file known c) (flat_map (fact_faults file known) fs) e)
narrow_is_all file known low (tree.initial_value v ∷ fs) e =
    narrow_is_all file known low fs (nil_right (ground_atom_faults file (in_function known) v.function) (flat_map (fact_faults file known) fs) e)

-- ---- the faults of the phases, phase by phase

-- if the first list with a fault is empty, all lists are
pub none_filled : (faults : List TypingFault) (later : List (List TypingFault)) → first_filled (faults ∷ later) ≡ [] → (faults ≡ []) × (first_filled later ≡ [])
none_filled [] later e = (refl, e)
none_filled (f ∷ more) later e = absurd (cc)

first_filled-later : (faults : List TypingFault) (later others : List (List TypingFault)) → first_filled later ≡ first_filled others → first_filled (faults ∷ later) ≡ first_filled (faults ∷ others)
first_filled-later [] later others e = e
first_filled-later (f ∷ more) later others e = refl

pub first_filled-append : (lists later : List (List TypingFault)) → first_filled (lists ++ later) ≡ first_filled (first_filled lists ∷ later)
first_filled-append [] later = refl
first_filled-append ([] ∷ lists) later = first_filled-append lists later
first_filled-append ((f ∷ more) ∷ lists) later = refl

-- the pair's faults: those of its declarations, of the actions, and of the problem's statements
pub faults_by_parts : (d : tree.Domain) (p : tree.Problem)
    → faults_of d p ≡ first_filled (declared_faults d p ∷ action_faults (known_in_domain d) d.actions ∷ stated_faults_in problem_file (known_in_problem d p) p ∷ [])
faults_by_parts d p =
    let types = (domain_name_faults d p ++ type_declaration_faults d) ∷ cycle_faults d ∷ [] in
    let names = object_faults d p ∷ declaration_faults (type_names d) d.predicates ∷ function_faults d p ∷ [] in
    let actions = action_faults (known_in_domain d) d.actions in
    let stated = init_faults problem_file (known_in_problem d p) p.init ∷ formula_faults problem_file (known_in_problem d p) p.goal ∷ [] in
    first_filled-append types (names ++ (actions ∷ stated)) ∙ first_filled-append (first_filled types ∷ names) (actions ∷ stated)
    ∙ first_filled-later (declared_faults d p) (actions ∷ stated) (actions ∷ first_filled stated ∷ []) (first_filled-later actions stated (first_filled stated ∷ []) (first_filled-append stated []))

-- the names visible in the domain and in the problem
module _ (d : tree.Domain) (p : tree.Problem) (n : Names) (are : AreNamesOf d p n) where
  pub names_in_domain : known_in_names n n.objects.constants.entries ≡ known_in_domain d
  names_in_domain = λ i. record { type_names = are.types.names i; types = are.types.all i; predicates = are.predicates i; functions = are.functions i; variables = []; objects = are.objects.constants i }

  pub names_in_problem : known_in_names n n.objects.all.entries ≡ known_in_problem d p
  names_in_problem = λ i. record { type_names = are.types.names i; types = are.types.all i; predicates = are.predicates i; functions = are.functions i; variables = []; objects = are.objects.all i }

-- ---- the task of a pair without faults

module _ (d : tree.Domain) (p : tree.Problem) (no_declared : declared_faults d p ≡ []) (no_action : action_faults (known_in_domain d) d.actions ≡ []) (no_stated : stated_faults_in problem_file (known_in_problem d p) p ≡ []) where
  no_type : type_faults_of d p ≡ []
  no_type = (none_filled _ _ no_declared).0

  no_other : first_filled (declaration_faults (type_names d) d.predicates ∷ function_faults d p ∷ []) ≡ []
  no_other = (none_filled (object_faults d p) _ (none_filled (type_faults_of d p) _ no_declared).1).1

  no_names : type_declaration_faults d ≡ []
  no_names = nil_right (domain_name_faults d p) (type_declaration_faults d) (none_filled _ _ no_type).0

  no_cycle : cycle_faults d ≡ []
  no_cycle = (none_filled _ _ (none_filled (domain_name_faults d p ++ type_declaration_faults d) (cycle_faults d ∷ []) no_type).1).0

  no_declaration : declaration_faults (type_names d) d.predicates ≡ []
  no_declaration = (none_filled _ _ no_other).0

  no_function : declaration_faults (type_names d) d.functions ≡ []
  no_function = nil_left (declaration_faults (type_names d) d.functions) _ (none_filled _ _ (none_filled (declaration_faults (type_names d) d.predicates) _ no_other).1).0

  no_init : flat_map (fact_faults problem_file (known_in_problem d p)) p.init ≡ []
  no_init =
      own_faults problem_file (known_in_problem d p) [] p.init
      (nil_left (facts_faults problem_file (known_in_problem d p) [] p.init) (refused 23 (drop 1 (equals_in problem_file p.init))) (none_filled (init_faults problem_file (known_in_problem d p) p.init) _ no_stated).0)

  no_goal : formula_faults problem_file (known_in_problem d p) p.goal ≡ []
  no_goal = (none_filled _ _ (none_filled (init_faults problem_file (known_in_problem d p) p.init) _ no_stated).1).0

  abbrev twice_types : List TypingFault
  twice_types = refused 16 (repeated_after (codes "object" ∷ []) (words_of (declared_types d)))

  abbrev many_types : List TypingFault
  many_types = refused 25 (one_after 4095 (words_of (declared_types d)))

  count_types : length (type_names d) ≡ length (parents_of d)
  count_types =
      let once = not_refused 16 (repeated_after (codes "object" ∷ []) (words_of (declared_types d))) (nil_left twice_types (type_faults (type_names d) (declared_types d)) (nil_left (twice_types ++ type_faults (type_names d) (declared_types d)) many_types no_names)) in
      omega (arith, ap length (names_are (declared_types d) once), length-map (names_of (declared_types d)) folded, length-map (declared_types d) (λ (x : Declared). x.name), length-map (declared_types d) (λ (x : Declared). type_in (type_names d) x.types))

  few_arguments : (qs : List tree.Predicate) → declaration_faults (type_names d) qs ≡ [] → list_all (λ (q : task.Predicate). nat_le (length q.arguments) 8) (map (predicate_in (type_names d)) qs) ≡ true
  few_arguments qs none =
      arities_fit (type_names d) qs (nil_right (refused 16 (repeated (map (λ (q : tree.Predicate). record { file = domain_file; word = q.name }) qs))) (flat_map (argument_faults (type_names d)) qs) none)

  pub low_arguments : list_all (λ (q : task.Predicate). nat_le (length q.arguments) 8) (predicates_of d) ≡ true
  low_arguments = few_arguments d.predicates no_declaration

  -- each parent is a type, and no chain is cyclic
  some_type : 0 < length (type_names d)
  some_type = omega (arith, count_types, length-map (declared_types d) (λ (x : Declared). type_in (type_names d) x.types))

  parents_fit : (k : ℕ) → slice_index (parents_of d) k < length (parents_of d)
  parents_fit zero = omega (arith, count_types, some_type)
  parents_fit (suc k) =
      let xs = declared_types d in
      let unknown = nil_right twice_types (type_faults (type_names d) xs) (nil_left (twice_types ++ type_faults (type_names d) xs) many_types no_names) in
      let low = parents_low (type_names d) some_type xs unknown k in
      omega (arith, low, count_types)

  none_back : (k : ℕ) → suc k < length (parents_of d) → comes_back (parents_of d) (suc k) ≡ false
  none_back k l =
      let xs = declared_types d in
      ap (comes_back (parents_of d)) (next k) ∙ none_comes_back (parents_of d) 1 xs no_cycle k (omega (arith, l, length-map xs (λ (x : Declared). type_in (type_names d) x.types)))

  -- the supertypes of a type are its ancestors
  pub supertypes_above : (number : ℕ) (t : task.ObjectType) → slice_get (types_of d) number ≡ Some t → (above : ℕ) → Contains t.supertypes above ↔ Descends (parents_of d) number above
  supertypes_above number t at above =
      let parents = parents_of d in
      let here = type_at parents parents_fit none_back 0 (type_names d) number t at in
      let is : t.supertypes ≡ whole_chain parents number = here.0 ∙ ap (whole_chain parents) (omega arith) in
      let both = descends_on_chain parents parents_fit none_back refl number above (omega (arith, here.1, count_types)) in (
        λ occurs. both.0 (Contains_among above (whole_chain parents number) (subst (λ xs. Contains xs above) is occurs)),
        λ up. subst (λ xs. Contains xs above) (sym is) (among_Contains above (whole_chain parents number) (both.1 up)),
      )

  pub typed : is_task (task_of_trees d p) ≡ true
  typed =
      let t = task_of_trees d p in
      let known = known_in_problem d p in
      let fits : Fits t [] known = record { types = refl; predicates = refl; functions = refl; variables = refl; objects = λ n o e. e } in
      and_true _ _
      (and_true _ _
      (and_true _ _
      (and_true _ _
      (all_whole (parents_of d) parents_fit none_back (type_names d) 0 (type_names d) (omega (arith, count_types)))
      (and_true _ _ low_arguments (few_arguments d.functions no_function)))
      (schemas_fit t (known_in_domain d) refl refl refl
      (λ n o e. ap (λ os. slice_get os n) (map-append (object_in (type_names d)) (declared_constants d) (declared problem_file p.objects)) ∙ got_first (map (object_in (type_names d)) (declared_constants d)) (map (object_in (type_names d)) (declared problem_file p.objects)) n o e)
      d.actions
      (nil_right (refused 16 (repeated (map (λ (a : tree.Action). record { file = domain_file; word = a.name }) d.actions))) (flat_map (schema_faults (known_in_domain d)) d.actions) no_action)))
      (facts_fit t [] problem_file known fits p.init no_init))
      (formula_fits t problem_file [] known fits (omega arith) p.goal no_goal)

-- ---- the task that the phases produce

-- the products of the phases for the pair, which found no fault
pub record IsMade (d : tree.Domain) (p : tree.Problem) (made : task.Task) : Type 0 where
  pub well_typed : IsWellTyped d p
  pub same : made ≡ task_of_trees d p
  pub typed : is_task made ≡ true

-- these are the parts of the pair's task, each atom with at most as many of its objects as a predicate may have
pub record AreParts (d : tree.Domain) (p : tree.Problem) (parts : TaskParts) : Type 0 where
  pub types : map type_entry_of parts.types.entries ≡ types_of d
  pub objects : map object_entry_of parts.objects.entries ≡ objects_of d p
  pub predicates : map predicate_of parts.predicates.entries ≡ predicates_of d
  pub functions : map predicate_of parts.functions.entries ≡ functions_of d
  pub schemas : map schema_of parts.schemas.entries ≡ map (schema_in (known_in_domain d)) d.actions
  pub init : map atom_of parts.init.items ≡ flat_map (narrow_atoms_in (known_in_problem d p)) p.init
  pub values : map value_of parts.values.entries ≡ values_after (known_in_problem d p) [] p.init
  pub goal : formula_of parts.goal ≡ formula_in problem_file (known_in_problem d p) p.goal
  pub metric : parts.has_metric ≡ is_some p.metric

module _ (d : tree.Domain) (p : tree.Problem) (parts : TaskParts) (are : AreParts d p parts) (no_declared : declared_faults d p ≡ []) (no_action : action_faults (known_in_domain d) d.actions ≡ [])
    (no_stated : stated_faults_in problem_file (known_in_problem d p) p ≡ []) where
  pub made_by_phases : IsMade d p (task_of_parts parts)
  made_by_phases =
      let same_init = are.init ∙ narrow_is_all problem_file (known_in_problem d p) (low_arguments d p no_declared no_action no_stated) p.init (no_init d p no_declared no_action no_stated) in
      let same : task_of_parts parts ≡ task_of_trees d p =
      λ i. record { types = are.types i; objects = are.objects i; predicates = are.predicates i; functions = are.functions i; schemas = are.schemas i; init = same_init i; values = are.values i; goal = are.goal i; has_metric = are.metric i } in
      record {
        well_typed = faults_by_parts d p ∙ (λ i. first_filled (no_declared i ∷ no_action i ∷ no_stated i ∷ []));
        same = same;
        typed = ap is_task same ∙ typed d p no_declared no_action no_stated;
      }
