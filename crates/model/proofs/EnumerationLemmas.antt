-- Finding the kept instances, part by part: what has been found, together with what the remaining parts give, is the whole. A
-- part is a schema, or one of the objects of the next parameter.
use Rattle.std.proofs.Common.{◌≡◌, ◌∙◌, ℕ, zero, suc, ◌+◌, ◌<◌, ◌≤◌, Bool, true, false, not, ◌&&◌, ◌||◌, inl, inr, List, [], ◌∷◌, ◌++◌, map, length, drop, None, Some, refl, sym, ap, arith, append-nil, append_assoc}
use Rattle.std.specs.Prelude.{slice_get, slice_index, nat_lt, filter, cond}
use Rattle.std.specs.List.{list_all, list_any, flat_map}
use Rattle.std.specs.Option.{option_map_or}
use Rattle.std.proofs.lemmas.Bool.{and_parts, and_right, or_cases, or_left, or_right, ltb-true}
use Rattle.std.proofs.lemmas.List.{length-append, drop_all, map-append}
use Rattle.std.proofs.lemmas.List.Folds.{list_any-append}
use Rattle.std.proofs.lemmas.List.Elements.{filter-append}
use Rattle.model.specs.Task.{Atom, LiftedAtom, Term, variable, object, Formula, Formulas, atom, equal, and, or, imply, exists, forall, no_formula, more_formulas, Schema, Task, Instance}
use Rattle.model.specs.Task as task_of
use Rattle.model.specs.Meaning.{object_of, objects_of, ground_atom, initial_state, has_amount}
use Rattle.model.specs.Instances.{product, instances_of_schema, instances_from}
use Rattle.model.specs.SureLiterals.{Literal, is_true, is_false, are_same, are_different, literal_holds, sure, sure_not, all_sure}
use Rattle.model.specs.StaticallyFalse.{is_fixed, is_statically_false, is_kept}
use Rattle.model.proofs.ListLemmas.{drop-here, drop-absent}

-- ---- one part after another

module _ {X : Type 0} (keep : X → Bool) (now left here later whole : List X) (split : left ≡ here ++ later) (all : now ++ filter keep left ≡ whole) where
  -- the next part has been searched
  pub found-more : (now ++ filter keep here) ++ filter keep later ≡ whole
  found-more =
      append_assoc now (filter keep here) (filter keep later)
      ∙ ap (λ l. now ++ l) (sym (filter-append keep here later) ∙ ap (filter keep) (sym split))
      ∙ all

  -- if it gives too many, the whole has too many
  pub found-too_many : (max : ℕ) → max < length (now ++ filter keep here) → max < length whole
  found-too_many max many = omega (arith, many, length-append (now ++ filter keep here) (filter keep later), ap length found-more)

-- no part is left
pub found-all : {X : Type 0} (keep : X → Bool) (now left whole : List X) → left ≡ [] → now ++ filter keep left ≡ whole → now ≡ whole
found-all keep now left whole none all = sym (append-nil now) ∙ ap (λ l. now ++ filter keep l) (sym none) ∙ all

-- what the elements from one on give
pub flat_map-here : {X Y : Type 0} (f : Y → List X) (items : List Y) (i : ℕ) (y : Y) → slice_get items i ≡ Some y → flat_map f (drop i items) ≡ f y ++ flat_map f (drop (i + 1) items)
flat_map-here f items i y at = ap (flat_map f) (drop-here items i y at)

pub flat_map-end : {X Y : Type 0} (f : Y → List X) (items : List Y) (i : ℕ) → length items ≤ i → flat_map f (drop i items) ≡ []
flat_map-end f items i past = ap (flat_map f) (drop_all i items past)

-- ---- schema by schema

-- the instances of the schemas from one on
abbrev pub instances_left : Task → ℕ → List Instance
instances_left task number = instances_from task number (drop number task.schemas)

pub instances-here : (task : Task) (number : ℕ) (s : Schema) → slice_get task.schemas number ≡ Some s → instances_left task number ≡ instances_of_schema task number s ++ instances_left task (number + 1)
instances-here task number s at = ap (instances_from task number) (drop-here task.schemas number s at)

pub instances-end : (task : Task) (number : ℕ) → slice_get task.schemas number ≡ None → instances_left task number ≡ []
instances-end task number none = ap (instances_from task number) (drop-absent task.schemas number none)

-- ---- object by object

abbrev instance_with : ℕ → List ℕ → List ℕ → Instance
instance_with schema objects rest = record { schema = schema; objects = objects ++ rest }

-- the instances of the schema with this number that begin with these objects and continue with one of each of these lists
abbrev pub begun : ℕ → List ℕ → List (List ℕ) → List Instance
begun schema objects left = map (instance_with schema objects) (product left)

-- with no object these are all instances of the schema
pub begun-of_schema : (task : Task) (number : ℕ) (s : Schema) → begun number [] (map (objects_of task) s.parameters) ≡ instances_of_schema task number s
begun-of_schema task number s = refl

-- if no object is left to choose there is one instance
pub begun-one : (schema : ℕ) (objects : List ℕ) → begun schema objects [] ≡ record { schema = schema; objects = objects } ∷ []
begun-one schema objects = ap (λ os. record { schema = schema; objects = os } ∷ []) (append-nil objects)

begun-with : (schema : ℕ) (objects : List ℕ) (first : ℕ) (rests : List (List ℕ)) → map (instance_with schema objects) (map (λ rest. first ∷ rest) rests) ≡ map (instance_with schema (objects ++ first ∷ [])) rests
begun-with schema objects first [] = refl
begun-with schema objects first (rest ∷ rests) =
    λ i. record { schema = schema; objects = sym (append_assoc objects (first ∷ []) rest) i } ∷ begun-with schema objects first rests i

-- otherwise there is one part for each object of the next parameter
pub begun-next : (schema : ℕ) (objects firsts : List ℕ) (left : List (List ℕ)) → begun schema objects (firsts ∷ left) ≡ flat_map (λ first. begun schema (objects ++ first ∷ []) left) firsts
begun-next schema objects [] left = refl
begun-next schema objects (first ∷ firsts) left =
    map-append (instance_with schema objects) (map (λ rest. first ∷ rest) (product left)) (flat_map (λ one. map (λ rest. one ∷ rest) (product left)) firsts)
    ∙ (λ i. begun-with schema objects first (product left) i ++ begun-next schema objects firsts left i)

-- ---- what the first objects already make statically false

-- none of the instances that begin like this is kept, since further objects cannot change that
pub begun-none : (task : Task) (schema : ℕ) (objects : List ℕ) (left : List (List ℕ)) → ((rest : List ℕ) → is_kept task (record { schema = schema; objects = objects ++ rest }) ≡ false)
    → filter (is_kept task) (begun schema objects left) ≡ []
begun-none task schema objects left never = each (product left)
  where
    each : (rests : List (List ℕ)) → filter (is_kept task) (map (instance_with schema objects) rests) ≡ []
    each [] = refl
    each (rest ∷ rests) =
        ap (λ b. cond b (instance_with schema objects rest ∷ filter (is_kept task) (map (instance_with schema objects) rests)) (filter (is_kept task) (map (instance_with schema objects) rests))) (never rest)
        ∙ each rests

-- the term is an object, or one of the first `n` variables
abbrev pub is_bound : ℕ → Term → Bool
is_bound count (variable number) = nat_lt number count
is_bound count (object number) = true

index-append : (xs ys : List ℕ) (i : ℕ) → i < length xs → slice_index (xs ++ ys) i ≡ slice_index xs i
index-append [] ys i below = absurd (omega arith)
index-append (x ∷ xs) ys zero below = refl
index-append (x ∷ xs) ys (suc i) below = index-append xs ys i (omega arith)

-- such a term denotes the same object when more objects follow
pub object_of-more : (objects rest : List ℕ) (t : Term) → is_bound (length objects) t ≡ true → object_of (objects ++ rest) t ≡ object_of objects t
object_of-more objects rest (variable number) bound = index-append objects rest number (ltb-true number (length objects) bound)
object_of-more objects rest (object number) bound = refl

objects_of-more : (objects rest : List ℕ) (terms : List Term) → list_all (is_bound (length objects)) terms ≡ true → map (object_of (objects ++ rest)) terms ≡ map (object_of objects) terms
objects_of-more objects rest [] bound = refl
objects_of-more objects rest (t ∷ terms) bound =
    let parts = and_parts (is_bound (length objects) t) (list_all (is_bound (length objects)) terms) bound in
    λ i. object_of-more objects rest t parts.0 i ∷ objects_of-more objects rest terms parts.1 i

pub ground_atom-more : (objects rest : List ℕ) (a : LiftedAtom) → list_all (is_bound (length objects)) a.terms ≡ true → ground_atom (objects ++ rest) a ≡ ground_atom objects a
ground_atom-more objects rest a bound = ap (λ os. record { predicate = a.predicate; objects = os }) (objects_of-more objects rest a.terms bound)

-- all variables of an atom, or of an equality, are bound
abbrev pub are_bound : ℕ → Formula → Bool
are_bound count (atom a) = list_all (is_bound count) a.terms
are_bound count (equal t u) = is_bound count t && is_bound count u
are_bound count _ = false

-- A sure literal outside any `forall`, all of whose variables are bound, makes the formula statically false.
abbrev mutual
  pub closed_within : Task → Formula → List ℕ → Bool
  closed_within task (atom a) objects = are_bound (length objects) (atom a) && is_statically_false task (atom a) objects
  closed_within task (equal t u) objects = are_bound (length objects) (equal t u) && is_statically_false task (equal t u) objects
  closed_within task (task_of.not part) objects = are_bound (length objects) part && is_statically_false task (task_of.not part) objects
  closed_within task (and parts) objects = some_closed_within task parts objects
  closed_within task _ objects = false

  pub some_closed_within : Task → Formulas → List ℕ → Bool
  some_closed_within task no_formula objects = false
  some_closed_within task (more_formulas first rest) objects = closed_within task first objects || some_closed_within task rest objects

-- some of these are fixed and initially false
abbrev pub some_closes : Task → List Literal → Bool
some_closes task literals = list_any (λ l. is_fixed task l && not (literal_holds (initial_state task) l)) literals

sure_not-more : (part : Formula) (objects rest : List ℕ) → are_bound (length objects) part ≡ true → sure_not part (objects ++ rest) ≡ sure_not part objects
sure_not-more (atom a) objects rest bound = ap (λ b. is_false b ∷ []) (ground_atom-more objects rest a bound)
sure_not-more (equal t u) objects rest bound =
    let parts = and_parts (is_bound (length objects) t) (is_bound (length objects) u) bound in
    λ i. are_different (object_of-more objects rest t parts.0 i) (object_of-more objects rest u parts.1 i) ∷ []
sure_not-more (and parts) objects rest bound = refl
sure_not-more (or parts) objects rest bound = refl
sure_not-more (task_of.not part) objects rest bound = refl
sure_not-more (imply premise conclusion) objects rest bound = refl
sure_not-more (exists types part) objects rest bound = refl
sure_not-more (forall types part) objects rest bound = refl

mutual
  pub closed-later : (task : Task) (f : Formula) (objects rest : List ℕ) → closed_within task f objects ≡ true → is_statically_false task f (objects ++ rest) ≡ true
  closed-later task (atom a) objects rest closed =
      let parts = and_parts (are_bound (length objects) (atom a)) (is_statically_false task (atom a) objects) closed in
      ap (λ b. some_closes task (is_true b ∷ [])) (ground_atom-more objects rest a parts.0) ∙ parts.1
  closed-later task (equal t u) objects rest closed =
      let parts = and_parts (are_bound (length objects) (equal t u)) (is_statically_false task (equal t u) objects) closed in
      let bound = and_parts (is_bound (length objects) t) (is_bound (length objects) u) parts.0 in
      (λ i. some_closes task (are_same (object_of-more objects rest t bound.0 i) (object_of-more objects rest u bound.1 i) ∷ [])) ∙ parts.1
  closed-later task (task_of.not part) objects rest closed =
      let parts = and_parts (are_bound (length objects) part) (is_statically_false task (task_of.not part) objects) closed in
      ap (some_closes task) (sure_not-more part objects rest parts.0) ∙ parts.1
  closed-later task (and parts) objects rest closed = some_closed-later task parts objects rest closed
  closed-later task (or parts) objects rest closed = absurd (cc)
  closed-later task (imply premise conclusion) objects rest closed = absurd (cc)
  closed-later task (exists types part) objects rest closed = absurd (cc)
  closed-later task (forall types part) objects rest closed = absurd (cc)

  pub some_closed-later : (task : Task) (fs : Formulas) (objects rest : List ℕ) → some_closed_within task fs objects ≡ true → some_closes task (all_sure task fs (objects ++ rest)) ≡ true
  some_closed-later task no_formula objects rest closed = absurd (cc)
  some_closed-later task (more_formulas first others) objects rest closed =
      list_any-append (λ l. is_fixed task l && not (literal_holds (initial_state task) l)) (sure task first (objects ++ rest)) (all_sure task others (objects ++ rest))
      ∙ elim (or_cases (closed_within task first objects) (some_closed_within task others objects) closed) [
        | inl here ↦ or_left (is_statically_false task first (objects ++ rest)) (some_closes task (all_sure task others (objects ++ rest))) (closed-later task first objects rest here)
        | inr later ↦ or_right (is_statically_false task first (objects ++ rest)) (some_closes task (all_sure task others (objects ++ rest))) (some_closed-later task others objects rest later)
      ]

-- the first objects make the precondition of the schema with this number statically false
abbrev pub is_pruned : Task → ℕ → List ℕ → Bool
is_pruned task schema objects = option_map_or (λ (s : Schema). closed_within task s.precondition objects) (slice_get task.schemas schema) false

pub begun-pruned : (task : Task) (schema : ℕ) (objects : List ℕ) (left : List (List ℕ)) → is_pruned task schema objects ≡ true → filter (is_kept task) (begun schema objects left) ≡ []
begun-pruned task schema objects left pruned =
    begun-none task schema objects left (λ rest.
    elim (slice_get task.schemas schema) as (λ o. option_map_or (λ (s : Schema). closed_within task s.precondition objects) o false ≡ true
    → option_map_or (λ (s : Schema). has_amount task s (objects ++ rest) && not (is_statically_false task s.precondition (objects ++ rest))) o false ≡ false) [
      | None ↦ λ none. refl
      | Some s ↦ λ closed. and_right (has_amount task s (objects ++ rest)) (not (is_statically_false task s.precondition (objects ++ rest))) (ap not (closed-later task s.precondition objects rest closed))
    ] pruned)
