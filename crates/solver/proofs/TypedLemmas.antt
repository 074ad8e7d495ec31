-- The numbered atoms of a task are well-typed.
use Rattle.std.proofs.Common.{◌≡◌, ℕ, zero, suc, Bool, true, false, ◌&&◌, ◌||◌, List, [], ◌∷◌, inl, inr, ◌++◌, length, map, cond, Option, None, Some, refl, sym, ap, ◌∙◌}
use Rattle.std.specs.Prelude.{nat_eq, nat_le, nat_lt, slice_get, slice_index, filter}
use Rattle.std.specs.Cmp.Lexicographic.{pointwise}
use Rattle.std.specs.Option.{option_map_or}
use Rattle.std.specs.List.{list_all, list_any, flat_map, range_with_len}
use Rattle.std.specs.Ordering.{eq_by_cmp}
use Rattle.std.proofs.lemmas.Bool.{or_cases, and_parts, and_from, eqb-true, eq-eqb}
use Rattle.std.proofs.lemmas.List.Folds.{list_all-append}
use Rattle.model.specs.Task.{ObjectType, Object, Union, Atom, LiftedAtom, Term, variable, object, Predicate, Formula, EffectLiteral, add, delete, Effect, Effects, literal, both, each, when, no_effect, more_effects, Schema, Task, Instance}
use Rattle.model.specs.WellTyped.{is_term, is_lifted_atom, is_atom, is_formula, is_effect_literal, is_effect, are_effects, is_increase, is_schema, is_whole_chain, has_few_arguments, is_task, max_variables}
use Rattle.model.specs.Meaning.{atom_cmp, supertypes_of, is_below, is_of, object_of, ground_atom, Change, ground_literal, change_under, changes_of, changes_of_all, fits, is_instance}
use Rattle.model.specs.Fluents.{is_fluent}
use Rattle.model.specs.StaticallyFalse.{kept_instances, counts}
use Rattle.model.specs.NumberedAtoms.{occurs_in, atom_of_literal, touched_by, initial_fluent_atoms, numbered_atoms}
use Rattle.model.proofs.Tests.{passes_got}
use Rattle.model.proofs.StaticLemmas.{same_atom, occurs_in-filter}
use Rattle.model.proofs.StaticallyFalseLemmas.{kept-Contains}
use Rattle.model.proofs.NumberingLemmas.{flat_map-occurs_in}
use Rattle.model.proofs.GroundTaskLemmas.{occurs_in-numbered}

or_later : (a b : Bool) → b ≡ true → (a || b) ≡ true
or_later true b is = refl
or_later false b is = is

-- an atom of a list of which each passes
typed_there : (p : Atom → Bool) (atoms : List Atom) (q : Atom) → occurs_in atoms q ≡ true → list_all p atoms ≡ true → p q ≡ true
typed_there p [] q there all = absurd (cc)
typed_there p (a ∷ atoms) q there all =
    let parts = and_parts (p a) (list_all p atoms) all in
    elim (eq_by_cmp atom_cmp q a) as (λ e. eq_by_cmp atom_cmp q a ≡ e → (e || occurs_in atoms q) ≡ true → p q ≡ true) [
      | true ↦ λ same _. ap p (same_atom q a same) ∙ parts.0
      | false ↦ λ _ later. typed_there p atoms q later parts.1
    ] refl there

-- ---- types

-- one of the numbers passes
number_of : (p : ℕ → Bool) (numbers : List ℕ) → list_any p numbers ≡ true → (n : ℕ) × (list_any (nat_eq n) numbers ≡ true) × (p n ≡ true)
number_of p [] any = absurd (cc)
number_of p (m ∷ numbers) any =
    elim (p m) as (λ v. p m ≡ v → (v || list_any p numbers) ≡ true → (n : ℕ) × ((nat_eq n m || list_any (nat_eq n) numbers) ≡ true) × (p n ≡ true)) [
      | true ↦ λ passes _. (m, ap (λ v. v || list_any (nat_eq m) numbers) (eq-eqb m m refl), passes)
      | false ↦ λ _ later. let (n, among, passes) = number_of p numbers later in (n, or_later (nat_eq n m) (list_any (nat_eq n) numbers) among, passes)
    ] refl any

-- a number of the list passes what each passes, and so one passes what it passes
number_passes : (p : ℕ → Bool) (numbers : List ℕ) (n : ℕ) → list_any (nat_eq n) numbers ≡ true → list_all p numbers ≡ true → p n ≡ true
number_passes p [] n among all = absurd (cc)
number_passes p (m ∷ numbers) n among all =
    let parts = and_parts (p m) (list_all p numbers) all in
    elim (nat_eq n m) as (λ v. nat_eq n m ≡ v → (v || list_any (nat_eq n) numbers) ≡ true → p n ≡ true) [
      | true ↦ λ same _. ap p (eqb-true n m same) ∙ parts.0
      | false ↦ λ _ later. number_passes p numbers n later parts.1
    ] refl among

one_passes : (p : ℕ → Bool) (numbers : List ℕ) (n : ℕ) → list_any (nat_eq n) numbers ≡ true → p n ≡ true → list_any p numbers ≡ true
one_passes p [] n among passes = absurd (cc)
one_passes p (m ∷ numbers) n among passes =
    elim (nat_eq n m) as (λ v. nat_eq n m ≡ v → (v || list_any (nat_eq n) numbers) ≡ true → (p m || list_any p numbers) ≡ true) [
      | true ↦ λ same _. ap (λ v. v || list_any p numbers) (ap p (sym (eqb-true n m same)) ∙ passes)
      | false ↦ λ _ later. or_later (p m) (list_any p numbers) (one_passes p numbers n later passes)
    ] refl among

abbrev chains : Task → Bool
chains task = list_all (is_whole_chain task) task.types

-- what is above a type above a type is above it
above_above : (task : Task) (type above higher : ℕ) → chains task ≡ true → list_any (nat_eq above) (supertypes_of task type) ≡ true
    → list_any (nat_eq higher) (supertypes_of task above) ≡ true → list_any (nat_eq higher) (supertypes_of task type) ≡ true
above_above task type above higher whole is_above is_higher =
    elim (slice_get task.types type) as (λ o. slice_get task.types type ≡ o → list_any (nat_eq above) (above_of o) ≡ true → list_any (nat_eq higher) (above_of o) ≡ true) [
      | None ↦ λ _ none. absurd (cc)
      | Some t ↦ λ at among.
          let test = λ (n : ℕ). list_any (nat_eq n) t.supertypes in
          let all = passes_got (is_whole_chain task) task.types type t at whole in
          number_passes test (supertypes_of task above) higher is_higher (number_passes (λ n. list_all test (supertypes_of task n)) t.supertypes above among all)
    ] refl is_above
  where
    above_of : Option ObjectType → List ℕ
    above_of found = option_map_or (λ (t : ObjectType). t.supertypes) found []

-- a type below one of some types, each of which is below one of others, is below one of those
below_wider : (task : Task) (narrow wide : Union) (type : ℕ) → chains task ≡ true → list_all (is_below task wide) narrow ≡ true → is_below task narrow type ≡ true → is_below task wide type ≡ true
below_wider task narrow wide type whole wider below =
    let (above, is_above, named) = number_of (λ n. list_any (nat_eq n) narrow) (supertypes_of task type) below in
    let (higher, is_higher, required) = number_of (λ n. list_any (nat_eq n) wide) (supertypes_of task above) (number_passes (is_below task wide) narrow above named wider) in
    one_passes (λ n. list_any (nat_eq n) wide) (supertypes_of task type) higher (above_above task type above higher whole is_above is_higher) required

of_wider : (task : Task) (narrow wide : Union) (o : ℕ) → chains task ≡ true → list_all (is_below task wide) narrow ≡ true → is_of task narrow o ≡ true → is_of task wide o ≡ true
of_wider task narrow wide o whole wider of =
    elim (slice_get task.objects o) as (λ found. is_below_of narrow found ≡ true → is_below_of wide found ≡ true) [
      | None ↦ λ none. absurd (cc)
      | Some x ↦ λ below. below_wider task narrow wide x.type whole wider below
    ] of
  where
    is_below_of : Union → Option Object → Bool
    is_below_of types found = option_map_or (λ (x : Object). is_below task types x.type) found false

-- ---- ground atoms

-- the object of a parameter is of the parameter's types
bound_of : (task : Task) (scope : List Union) (binding : List ℕ) (parameter : ℕ) (types : Union) → pointwise (is_of task) scope binding ≡ true → slice_get scope parameter ≡ Some types
    → is_of task types (slice_index binding parameter) ≡ true
bound_of task [] binding parameter types fit at = absurd (cc)
bound_of task (first ∷ scope) [] parameter types fit at = absurd (cc)
bound_of task (first ∷ scope) (o ∷ binding) zero types fit at =
    let same : first ≡ types = cc in
    ap (λ (u : Union). is_of task u o) (sym same) ∙ (and_parts (is_of task first o) (pointwise (is_of task) scope binding) fit).0
bound_of task (first ∷ scope) (o ∷ binding) (suc parameter) types fit at =
    bound_of task scope binding parameter types (and_parts (is_of task first o) (pointwise (is_of task) scope binding) fit).1 at

named_object : (task : Task) (scope : List Union) (binding : List ℕ) (types : Union) (t : Term) → chains task ≡ true → pointwise (is_of task) scope binding ≡ true → is_term task scope types t ≡ true
    → is_of task types (object_of binding t) ≡ true
named_object task scope binding types (variable p) whole fit typed =
    elim (slice_get scope p) as (λ o. slice_get scope p ≡ o → option_map_or (list_all (is_below task types)) o false ≡ true → is_of task types (slice_index binding p) ≡ true) [
      | None ↦ λ _ none. absurd (cc)
      | Some own ↦ λ at wider. of_wider task own types (slice_index binding p) whole wider (bound_of task scope binding p own fit at)
    ] refl typed
named_object task scope binding types (object n) whole fit typed = typed

named_objects : (task : Task) (scope : List Union) (binding : List ℕ) (arguments : List Union) (terms : List Term) → chains task ≡ true → pointwise (is_of task) scope binding ≡ true
    → pointwise (is_term task scope) arguments terms ≡ true → pointwise (is_of task) arguments (map (object_of binding) terms) ≡ true
named_objects task scope binding [] [] whole fit typed = refl
named_objects task scope binding [] (t ∷ terms) whole fit typed = absurd (cc)
named_objects task scope binding (types ∷ arguments) [] whole fit typed = absurd (cc)
named_objects task scope binding (types ∷ arguments) (t ∷ terms) whole fit typed =
    let parts = and_parts (is_term task scope types t) (pointwise (is_term task scope) arguments terms) typed in
    and_from (is_of task types (object_of binding t)) (pointwise (is_of task) arguments (map (object_of binding) terms)) (named_object task scope binding types t whole fit parts.0)
    (named_objects task scope binding arguments terms whole fit parts.1)

ground_typed : (task : Task) (scope : List Union) (binding : List ℕ) (a : LiftedAtom) → chains task ≡ true → pointwise (is_of task) scope binding ≡ true → is_lifted_atom task scope a ≡ true
    → is_atom task (ground_atom binding a) ≡ true
ground_typed task scope binding a whole fit typed =
    elim (slice_get task.predicates a.predicate) as (λ o. option_map_or (λ (p : Predicate). pointwise (is_term task scope) p.arguments a.terms) o false ≡ true
    → option_map_or (λ (p : Predicate). pointwise (is_of task) p.arguments (map (object_of binding) a.terms)) o false ≡ true) [
      | None ↦ λ none. absurd (cc)
      | Some p ↦ λ terms. named_objects task scope binding p.arguments a.terms whole fit terms
    ] typed

-- ---- what instances add or delete

-- what the change adds or deletes is well-typed
abbrev is_typed : Task → Change → Bool
is_typed task c = is_atom task (atom_of_literal c.literal)

-- each change for each number that passes
each_typed : (p : Change → Bool) (q : ℕ → Bool) (f : ℕ → List Change) (ns : List ℕ) → ((n : ℕ) → q n ≡ true → list_all p (f n) ≡ true) → list_all p (flat_map f (filter q ns)) ≡ true
each_typed p q f [] here = refl
each_typed p q f (n ∷ ns) here =
    let later = each_typed p q f ns here in
    elim (q n) as (λ v. q n ≡ v → list_all p (flat_map f (cond v (n ∷ filter q ns) (filter q ns))) ≡ true) [
      | true ↦ λ is.
          list_all-append p (f n) (flat_map f (filter q ns))
          ∙ and_from (list_all p (f n)) (list_all p (flat_map f (filter q ns))) (here n is) later
      | false ↦ λ _. later
    ] refl

fits_one_more : {A B : Type 0} (p : A → B → Bool) (xs : List A) (ys : List B) (x : A) (y : B) → pointwise p xs ys ≡ true → p x y ≡ true → pointwise p (xs ++ x ∷ []) (ys ++ y ∷ []) ≡ true
fits_one_more p [] [] x y all here = λ i. here i && true
fits_one_more p [] (z ∷ ys) x y all here = absurd (cc)
fits_one_more p (z ∷ xs) [] x y all here = absurd (cc)
fits_one_more p (a ∷ xs) (b ∷ ys) x y all here =
    let parts = and_parts (p a b) (pointwise p xs ys) all in
    and_from (p a b) (pointwise p (xs ++ x ∷ []) (ys ++ y ∷ [])) parts.0 (fits_one_more p xs ys x y parts.1 here)

module _ (task : Task) (whole : chains task ≡ true) where
  literal_typed : (scope : List Union) (b : List ℕ) → pointwise (is_of task) scope b ≡ true → (l : EffectLiteral) → is_effect_literal task scope l ≡ true
      → is_atom task (atom_of_literal (ground_literal b l)) ≡ true
  literal_typed scope b fit (add a) typed = ground_typed task scope b a whole fit typed
  literal_typed scope b fit (delete a) typed = ground_typed task scope b a whole fit typed

  under_typed : (scope : List Union) (b : List ℕ) → pointwise (is_of task) scope b ≡ true → (condition : Formula) (ls : List EffectLiteral) → list_all (is_effect_literal task scope) ls ≡ true
      → list_all (is_typed task) (map (change_under condition b) ls) ≡ true
  under_typed scope b fit condition [] typed = refl
  under_typed scope b fit condition (l ∷ ls) typed =
      let parts = and_parts (is_effect_literal task scope l) (list_all (is_effect_literal task scope) ls) typed in
      and_from (is_typed task (change_under condition b l)) (list_all (is_typed task) (map (change_under condition b) ls))
      (literal_typed scope b fit l parts.0) (under_typed scope b fit condition ls parts.1)

  abbrev mutual
    changes_typed : (e : Effect) (scope : List Union) (b : List ℕ) → pointwise (is_of task) scope b ≡ true → is_effect task scope e ≡ true → list_all (is_typed task) (changes_of task e b) ≡ true
    changes_typed (literal l) scope b fit typed = and_from (is_atom task (atom_of_literal (ground_literal b l))) true (literal_typed scope b fit l typed) refl
    changes_typed (both parts) scope b fit typed = all_changes_typed parts scope b fit typed
    changes_typed (each types part) scope b fit typed =
        let inner = (and_parts (nat_lt (length scope) max_variables) (is_effect task (scope ++ types ∷ []) part) typed).1 in
        each_typed (is_typed task) (is_of task types) (λ one. changes_of task part (b ++ one ∷ [])) (range_with_len 0 (length task.objects))
        (λ one of. changes_typed part (scope ++ types ∷ []) (b ++ one ∷ []) (fits_one_more (is_of task) scope b types one fit of) inner)
    changes_typed (when condition literals) scope b fit typed =
        under_typed scope b fit condition literals (and_parts (is_formula task scope condition) (list_all (is_effect_literal task scope) literals) typed).1

    all_changes_typed : (es : Effects) (scope : List Union) (b : List ℕ) → pointwise (is_of task) scope b ≡ true → are_effects task scope es ≡ true → list_all (is_typed task) (changes_of_all task es b) ≡ true
    all_changes_typed no_effect scope b fit typed = refl
    all_changes_typed (more_effects first rest) scope b fit typed =
        let parts = and_parts (is_effect task scope first) (are_effects task scope rest) typed in
        list_all-append (is_typed task) (changes_of task first b) (changes_of_all task rest b)
        ∙ and_from (list_all (is_typed task) (changes_of task first b)) (list_all (is_typed task) (changes_of_all task rest b))
        (changes_typed first scope b fit parts.0) (all_changes_typed rest scope b fit parts.1)

-- the effect of an instance of a schema adds and deletes well-typed atoms
effect_typed : (task : Task) (schema : Schema) (objects : List ℕ) → chains task ≡ true → is_schema task schema ≡ true → fits task schema objects ≡ true
    → list_all (is_typed task) (changes_of task schema.effect objects) ≡ true
effect_typed task schema objects whole typed fit =
    let few = nat_le (length schema.parameters) max_variables && is_increase task schema.parameters schema.increase in
    let condition = is_formula task schema.parameters schema.precondition in
    let effect = (and_parts (few && condition) (is_effect task schema.parameters schema.effect) typed).1 in
    changes_typed task whole schema.effect schema.parameters objects fit effect

abbrev arities : Task → Bool
arities task = list_all has_few_arguments task.predicates && list_all has_few_arguments task.functions

-- the types, schemas and initial atoms of a well-typed task are
parts_typed : (task : Task) → is_task task ≡ true → (chains task ≡ true) × (list_all (is_schema task) task.schemas ≡ true) × (list_all (is_atom task) task.init ≡ true)
parts_typed task typed =
    let schemas = list_all (is_schema task) task.schemas in
    let init = list_all (is_atom task) task.init in
    let before_goal = and_parts (chains task && arities task && schemas) init (and_parts (chains task && arities task && schemas && init) (is_formula task [] task.goal) typed).0 in
    let before_init = and_parts (chains task && arities task) schemas before_goal.0 in
    ((and_parts (chains task) (arities task) before_init.0).0, before_init.1, before_goal.1)

all_filtered : (p q : Change → Bool) (cs : List Change) → list_all p cs ≡ true → list_all p (filter q cs) ≡ true
all_filtered p q [] all = refl
all_filtered p q (c ∷ cs) all =
    let parts = and_parts (p c) (list_all p cs) all in
    elim (q c) as (λ v. list_all p (cond v (c ∷ filter q cs) (filter q cs)) ≡ true) [
      | true ↦ and_from (p c) (list_all p (filter q cs)) parts.0 (all_filtered p q cs parts.1)
      | false ↦ all_filtered p q cs parts.1
    ]

all_mapped : {X Y : Type 0} (f : X → Y) (p : Y → Bool) (xs : List X) → list_all (λ x. p (f x)) xs ≡ true → list_all p (map f xs) ≡ true
all_mapped f p [] all = refl
all_mapped f p (x ∷ xs) all =
    let parts = and_parts (p (f x)) (list_all (λ y. p (f y)) xs) all in
    and_from (p (f x)) (list_all p (map f xs)) parts.0 (all_mapped f p xs parts.1)

-- those that a kept instance touches by a change that counts
touched_typed : (task : Task) (i : Instance) → is_task task ≡ true → is_instance task i ≡ true → list_all (is_atom task) (touched_by task i) ≡ true
touched_typed task i well is =
    let parts = parts_typed task well in
    elim (slice_get task.schemas i.schema) as (λ o. slice_get task.schemas i.schema ≡ o → option_map_or (λ (s : Schema). fits task s i.objects) o false ≡ true
    → list_all (is_atom task) (map (λ (c : Change). atom_of_literal c.literal) (filter (counts task) (option_map_or (λ (s : Schema). changes_of task s.effect i.objects) o []))) ≡ true) [
      | None ↦ λ _ none. absurd (cc)
      | Some schema ↦ λ at fit.
          let all = effect_typed task schema i.objects parts.0 (passes_got (is_schema task) task.schemas i.schema schema at parts.1) fit in
          all_mapped (λ (c : Change). atom_of_literal c.literal) (is_atom task) (filter (counts task) (changes_of task schema.effect i.objects))
          (all_filtered (is_typed task) (counts task) (changes_of task schema.effect i.objects) all)
    ] refl is

pub numbered_typed : (task : Task) (q : Atom) → is_task task ≡ true → occurs_in (numbered_atoms task []) q ≡ true → is_atom task q ≡ true
numbered_typed task q well at =
    elim (or_cases (occurs_in (initial_fluent_atoms task) q) (occurs_in touched q) (sym (occurs_in-numbered task [] q) ∙ at)) [
      | inl start ↦
          let there : (is_fluent task q.predicate && occurs_in task.init q) ≡ true = sym (occurs_in-filter (λ (a : Atom). is_fluent task a.predicate) task.init q) ∙ start in
          typed_there (is_atom task) task.init q (and_parts (is_fluent task q.predicate) (occurs_in task.init q) there).1 (parts_typed task well).2
      | inr there ↦
          let (i, among, by) = flat_map-occurs_in (touched_by task) (kept_instances task) q there in
          typed_there (is_atom task) (touched_by task i) q by (touched_typed task i well (kept-Contains task i among).0)
    ]
  where
    touched : List Atom
    touched = flat_map (touched_by task) (kept_instances task)
