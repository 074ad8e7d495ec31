-- The literals decided by the first variables, part by part, and what they make statically false.
use Rattle.std.proofs.Common.{◌≡◌, ◌∙◌, ℕ, zero, suc, ◌-◌, ◌<◌, Bool, true, false, not, ◌&&◌, ◌||◌, List, [], ◌∷◌, ◌++◌, length, None, Some, refl, sym, ap, arith, true≢false, inl, inr}
use Rattle.std.specs.Prelude.{◌==◌, slice_get, filter, cond}
use Rattle.std.specs.Global.{Vec}
use Rattle.std.specs.Cmp.Lexicographic.{pointwise}
use Rattle.std.specs.List.{list_all, list_any, flat_map}
use Rattle.std.specs.Option.{option_map_or}
use Rattle.std.proofs.lemmas.Bool.{and_parts, and_from, or_cases, or_left, or_right, ltb-true}
use Rattle.std.proofs.lemmas.List.Folds.{list_any-append, list_all-append}
use Rattle.std.proofs.lemmas.List.Elements.{filter-append}
use Rattle.task.specs.declared.schemas.Formula.{Formula}
use Rattle.task.specs.declared.schemas.Formula as formula
use Rattle.task.specs.TaskParts.{formula_of}
use Rattle.formulas.proofs.Trees.{formulas_in, formula_of-And}
use Rattle.model.specs.Task as task
use Rattle.model.specs.Task.{Task, Union, Term, variable, object, atom, equal, and, or, imply, exists, forall, no_formula, more_formulas}
use Rattle.model.specs.WellTyped.{is_formula, are_formulas, is_term, is_some_term}
use Rattle.model.specs.Meaning.{is_below}
use Rattle.model.specs.StaticallyFalse.{is_statically_false}
use Rattle.model.proofs.StaticLemmas.{or_false}
use Rattle.model.proofs.EnumerationLemmas.{is_bound, are_bound, closed_within, some_closed_within}
use Rattle.grounding_instances.specs.Literals.{conjuncts, conjuncts_of_all, is_decided, is_first_decided, decided_literals}

-- ---- tests and lists

and_true : (b : Bool) → (b && true) ≡ b
and_true true = refl
and_true false = refl

filter-flat_map : {X Y : Type 0} (p : Y → Bool) (f : X → List Y) (xs : List X) → filter p (flat_map f xs) ≡ flat_map (λ x. filter p (f x)) xs
filter-flat_map p f [] = refl
filter-flat_map p f (x ∷ xs) = filter-append p (f x) (flat_map f xs) ∙ ap (λ l. filter p (f x) ++ l) (filter-flat_map p f xs)

-- what holds of some that pass holds of some of all
any_passing : {X : Type 0} (p q r : X → Bool) → ((x : X) → p x ≡ true → q x ≡ true → r x ≡ true) → (xs : List X) → list_any q (filter p xs) ≡ true → list_any r xs ≡ true
any_passing p q r gives [] some = absurd (true≢false (sym some))
any_passing p q r gives (x ∷ xs) some =
    elim (p x) as (λ b. p x ≡ b → list_any q (cond b (x ∷ filter p xs) (filter p xs)) ≡ true → (r x || list_any r xs) ≡ true) [
      | true ↦ λ passes among. elim (or_cases (q x) (list_any q (filter p xs)) among) [
        | inl here ↦ or_left (r x) (list_any r xs) (gives x passes here)
        | inr later ↦ or_right (r x) (list_any r xs) (any_passing p q r gives xs later)
      ]
      | false ↦ λ _ later. or_right (r x) (list_any r xs) (any_passing p q r gives xs later)
    ] refl some

-- what holds of all holds of those that pass
all_passing : {X : Type 0} (p q r : X → Bool) → ((x : X) → p x ≡ true → q x ≡ true → r x ≡ true) → (xs : List X) → list_all q xs ≡ true → list_all r (filter p xs) ≡ true
all_passing p q r gives [] all = refl
all_passing p q r gives (x ∷ xs) all =
    let parts = and_parts (q x) (list_all q xs) all in
    elim (p x) as (λ b. p x ≡ b → list_all r (cond b (x ∷ filter p xs) (filter p xs)) ≡ true) [
      | true ↦ λ passes. and_from (r x) (list_all r (filter p xs)) (gives x passes parts.0) (all_passing p q r gives xs parts.1)
      | false ↦ λ _. all_passing p q r gives xs parts.1
    ] refl

-- ---- the conjuncts of a formula of the code

conjuncts-list : (parts : List Formula) → conjuncts_of_all (formulas_in parts) ≡ flat_map (λ part. conjuncts (formula_of part)) parts
conjuncts-list [] = refl
conjuncts-list (part ∷ parts) = ap (λ l. conjuncts (formula_of part) ++ l) (conjuncts-list parts)

pub decided_by_parts : (count : ℕ) (f : Formula) (parts : Vec Formula) (items : List Formula) → f ≡ formula.And parts → items ≡ parts.items
    → decided_literals count (formula_of f) ≡ flat_map (λ part. decided_literals count (formula_of part)) items
decided_by_parts count f parts items is same =
    ap (λ g. decided_literals count g) (ap formula_of is ∙ formula_of-And parts)
    ∙ ap (filter (is_first_decided count)) (conjuncts-list parts.items)
    ∙ filter-flat_map (is_first_decided count) (λ part. conjuncts (formula_of part)) parts.items
    ∙ ap (flat_map (λ part. decided_literals count (formula_of part))) (sym same)

-- ---- what they make statically false

mutual
  closed-conjuncts : (t : Task) (f : task.Formula) (objects : List ℕ) → closed_within t f objects ≡ list_any (λ g. closed_within t g objects) (conjuncts f)
  closed-conjuncts t (atom a) objects = sym (or_false _)
  closed-conjuncts t (equal x y) objects = sym (or_false _)
  closed-conjuncts t (and parts) objects = closed-all t parts objects
  closed-conjuncts t (or parts) objects = refl
  closed-conjuncts t (task.not part) objects = sym (or_false _)
  closed-conjuncts t (imply premise conclusion) objects = refl
  closed-conjuncts t (exists types part) objects = refl
  closed-conjuncts t (forall types part) objects = refl

  closed-all : (t : Task) (fs : task.Formulas) (objects : List ℕ) → some_closed_within t fs objects ≡ list_any (λ g. closed_within t g objects) (conjuncts_of_all fs)
  closed-all t no_formula objects = refl
  closed-all t (more_formulas first rest) objects =
      (λ i. closed-conjuncts t first objects i || closed-all t rest objects i)
      ∙ sym (list_any-append (λ g. closed_within t g objects) (conjuncts first) (conjuncts_of_all rest))

first_decided : (count : ℕ) (f : task.Formula) → is_first_decided count f ≡ true → is_decided count f ≡ true
first_decided count f first = (and_parts (is_decided count f) (count == 0 || not (is_decided (count - 1) f)) first).0

decided-closed : (t : Task) (f : task.Formula) (objects : List ℕ) → is_decided (length objects) f ≡ true → is_statically_false t f objects ≡ true → closed_within t f objects ≡ true
decided-closed t (atom a) objects decided closed = and_from (are_bound (length objects) (atom a)) (is_statically_false t (atom a) objects) decided closed
decided-closed t (equal x y) objects decided closed = and_from (are_bound (length objects) (equal x y)) (is_statically_false t (equal x y) objects) decided closed
decided-closed t (and parts) objects decided closed = absurd (true≢false (sym decided))
decided-closed t (or parts) objects decided closed = absurd (true≢false (sym decided))
decided-closed t (task.not part) objects decided closed = and_from (are_bound (length objects) part) (is_statically_false t (task.not part) objects) decided closed
decided-closed t (imply premise conclusion) objects decided closed = absurd (true≢false (sym decided))
decided-closed t (exists types part) objects decided closed = absurd (true≢false (sym decided))
decided-closed t (forall types part) objects decided closed = absurd (true≢false (sym decided))

-- if the objects so far make a literal statically false that they decide, they make the formula statically false
pub literals-close : (t : Task) (f : task.Formula) (objects : List ℕ) → list_any (λ g. is_statically_false t g objects) (decided_literals (length objects) f) ≡ true → closed_within t f objects ≡ true
literals-close t f objects some =
    closed-conjuncts t f objects
    ∙ any_passing (is_first_decided (length objects)) (λ g. is_statically_false t g objects) (λ g. closed_within t g objects)
    (λ g first closed. decided-closed t g objects (first_decided (length objects) g first) closed) (conjuncts f) some

-- ---- they are well-typed for the types of those variables only

mutual
  typed-conjuncts : (t : Task) (scope : List Union) (f : task.Formula) → is_formula t scope f ≡ list_all (is_formula t scope) (conjuncts f)
  typed-conjuncts t scope (atom a) = sym (and_true _)
  typed-conjuncts t scope (equal x y) = sym (and_true _)
  typed-conjuncts t scope (and parts) = typed-all t scope parts
  typed-conjuncts t scope (or parts) = sym (and_true _)
  typed-conjuncts t scope (task.not part) = sym (and_true _)
  typed-conjuncts t scope (imply premise conclusion) = sym (and_true _)
  typed-conjuncts t scope (exists types part) = sym (and_true _)
  typed-conjuncts t scope (forall types part) = sym (and_true _)

  typed-all : (t : Task) (scope : List Union) (fs : task.Formulas) → are_formulas t scope fs ≡ list_all (is_formula t scope) (conjuncts_of_all fs)
  typed-all t scope no_formula = refl
  typed-all t scope (more_formulas first rest) =
      (λ i. typed-conjuncts t scope first i && typed-all t scope rest i)
      ∙ sym (list_all-append (is_formula t scope) (conjuncts first) (conjuncts_of_all rest))

got-first : {X : Type 0} (xs ys : List X) (n : ℕ) → n < length xs → slice_get (xs ++ ys) n ≡ slice_get xs n
got-first [] ys n below = absurd (omega arith)
got-first (x ∷ xs) ys zero below = refl
got-first (x ∷ xs) ys (suc n) below = got-first xs ys n (omega arith)

module _ (t : Task) (scope rest : List Union) where
  term-first : (types : Union) (x : Term) → is_bound (length scope) x ≡ true → is_term t (scope ++ rest) types x ≡ is_term t scope types x
  term-first types (variable n) bound = ap (λ o. option_map_or (list_all (is_below t types)) o false) (got-first scope rest n (ltb-true n (length scope) bound))
  term-first types (object n) bound = refl

  terms-first : (unions : List Union) (terms : List Term) → list_all (is_bound (length scope)) terms ≡ true → pointwise (is_term t (scope ++ rest)) unions terms ≡ pointwise (is_term t scope) unions terms
  terms-first [] [] bound = refl
  terms-first [] (x ∷ terms) bound = refl
  terms-first (types ∷ unions) [] bound = refl
  terms-first (types ∷ unions) (x ∷ terms) bound =
      let parts = and_parts (is_bound (length scope) x) (list_all (is_bound (length scope)) terms) bound in
      λ i. term-first types x parts.0 i && terms-first unions terms parts.1 i

  some_term-first : (x : Term) → is_bound (length scope) x ≡ true → is_some_term t (scope ++ rest) x ≡ true → is_some_term t scope x ≡ true
  some_term-first (variable n) bound typed = bound
  some_term-first (object n) bound typed = typed

  bound-typed : (f : task.Formula) → are_bound (length scope) f ≡ true → is_formula t (scope ++ rest) f ≡ true → is_formula t scope f ≡ true
  bound-typed (atom a) bound typed =
      elim (slice_get t.predicates a.predicate) as (λ o. option_map_or (λ (p : task.Predicate). pointwise (is_term t (scope ++ rest)) p.arguments a.terms) o false ≡ true
      → option_map_or (λ (p : task.Predicate). pointwise (is_term t scope) p.arguments a.terms) o false ≡ true) [
        | None ↦ λ none. none
        | Some p ↦ λ fit. sym (terms-first p.arguments a.terms bound) ∙ fit
      ] typed
  bound-typed (equal x y) bound typed =
      let both = and_parts (is_bound (length scope) x) (is_bound (length scope) y) bound in
      let parts = and_parts (is_some_term t (scope ++ rest) x) (is_some_term t (scope ++ rest) y) typed in
      and_from (is_some_term t scope x) (is_some_term t scope y) (some_term-first x both.0 parts.0) (some_term-first y both.1 parts.1)
  bound-typed (and parts) bound typed = absurd (true≢false (sym bound))
  bound-typed (or parts) bound typed = absurd (true≢false (sym bound))
  bound-typed (task.not part) bound typed = absurd (true≢false (sym bound))
  bound-typed (imply premise conclusion) bound typed = absurd (true≢false (sym bound))
  bound-typed (exists types part) bound typed = absurd (true≢false (sym bound))
  bound-typed (forall types part) bound typed = absurd (true≢false (sym bound))

  decided-typed : (f : task.Formula) → is_decided (length scope) f ≡ true → is_formula t (scope ++ rest) f ≡ true → is_formula t scope f ≡ true
  decided-typed (atom a) decided typed = bound-typed (atom a) decided typed
  decided-typed (equal x y) decided typed = bound-typed (equal x y) decided typed
  decided-typed (task.not part) decided typed = bound-typed part decided typed
  decided-typed (and parts) decided typed = absurd (true≢false (sym decided))
  decided-typed (or parts) decided typed = absurd (true≢false (sym decided))
  decided-typed (imply premise conclusion) decided typed = absurd (true≢false (sym decided))
  decided-typed (exists types part) decided typed = absurd (true≢false (sym decided))
  decided-typed (forall types part) decided typed = absurd (true≢false (sym decided))

  pub literals-typed : (f : task.Formula) → is_formula t (scope ++ rest) f ≡ true → list_all (is_formula t scope) (decided_literals (length scope) f) ≡ true
  literals-typed f typed =
      all_passing (is_first_decided (length scope)) (is_formula t (scope ++ rest)) (is_formula t scope)
      (λ g first whole. decided-typed g (first_decided (length scope) g first) whole) (conjuncts f) (sym (typed-conjuncts t (scope ++ rest) f) ∙ typed)
