-- A formula holds in a state exactly if its image holds in the image of the state, under the image of the binding.
use Rattle.std.proofs.Common.{◌≡◌, ◌∙◌, ℕ, true, false, ◌&&◌, ◌||◌, List, [], ◌∷◌, ◌++◌, map, length, Option, None, Some, refl, sym, ap, subst, arith}
use Rattle.std.specs.Prelude.{nat_eq, nat_lt, slice_get}
use Rattle.std.specs.Prelude as bool
use Rattle.std.specs.Cmp.Lexicographic.{pointwise}
use Rattle.std.specs.List.{list_all}
use Rattle.std.specs.Option.{option_map_or}
use Rattle.std.specs.FinSet.{contains}
use Rattle.std.proofs.lemmas.Bool.{and_parts, lt-ltb}
use Rattle.std.proofs.lemmas.Option.{slice_get_within}
use Rattle.std.proofs.lemmas.List.{length-append, map_push}
use Rattle.model.specs.Task.{Union, Predicate, LiftedAtom, Term, variable, object, Formula, Formulas, atom, equal, and, or, not, imply, exists, forall, no_formula, more_formulas, Task}
use Rattle.model.specs.Meaning.{State, is_below, object_of, ground_atom, holds, all_hold, some_holds}
use Rattle.model.specs.WellTyped.{is_term, is_some_term, is_lifted_of, is_formula, are_formulas, max_variables}
use Rattle.model.proofs.EnumerationLemmas.{is_bound}
use Rattle.symmetries_definitions.specs.Exchanges.{image_of_state, image_of_formula, image_of_formulas}
use Rattle.symmetries_definitions.specs.Symmetries.{IsSymmetry}
use Rattle.symmetries_definitions.proofs.Images.{object-image, atom-image, same_objects, contains-image}
use Rattle.symmetries_definitions.proofs.ObjectImages.{some_object, each_object}

-- ---- the variables of well-typed terms are in scope

module _ (task : Task) (scope : List Union) where
  term_bound : (types : Union) (t : Term) → is_term task scope types t ≡ true → is_bound (length scope) t ≡ true
  term_bound types (variable k) typed = by_found (slice_get scope k) refl typed
    where
      by_found : (found : Option Union) → slice_get scope k ≡ found → option_map_or (list_all (is_below task types)) found false ≡ true → nat_lt k (length scope) ≡ true
      by_found None at is = absurd (cc)
      by_found (Some u) at is = lt-ltb k (length scope) (slice_get_within scope k u at)
  term_bound types (object number) typed = refl

  some_term_bound : (t : Term) → is_some_term task scope t ≡ true → is_bound (length scope) t ≡ true
  some_term_bound (variable k) typed = typed
  some_term_bound (object number) typed = refl

  terms_bound : (arguments : List Union) (ts : List Term) → pointwise (is_term task scope) arguments ts ≡ true → list_all (is_bound (length scope)) ts ≡ true
  terms_bound [] [] typed = refl
  terms_bound [] (t ∷ ts) typed = absurd (cc)
  terms_bound (types ∷ arguments) [] typed = refl
  terms_bound (types ∷ arguments) (t ∷ ts) typed =
      let parts = and_parts (is_term task scope types t) (pointwise (is_term task scope) arguments ts) typed in
      λ i. term_bound types t parts.0 i && terms_bound arguments ts parts.1 i

  lifted_bound_here : (declared : List Predicate) (a : LiftedAtom) → is_lifted_of declared task scope a ≡ true → list_all (is_bound (length scope)) a.terms ≡ true
  lifted_bound_here declared a typed = by_found (slice_get declared a.predicate) typed
    where
      by_found : (found : Option Predicate) → option_map_or (λ (p : Predicate). pointwise (is_term task scope) p.arguments a.terms) found false ≡ true → list_all (is_bound (length scope)) a.terms ≡ true
      by_found None is = absurd (cc)
      by_found (Some p) is = terms_bound p.arguments a.terms is

  pub lifted_bound : (declared : List Predicate) (a : LiftedAtom) (b : List ℕ) → is_lifted_of declared task scope a ≡ true → length scope ≡ length b → list_all (is_bound (length b)) a.terms ≡ true
  lifted_bound declared a b typed long = subst (λ n. list_all (is_bound n) a.terms ≡ true) long (lifted_bound_here declared a typed)

  some_bound : (t : Term) (b : List ℕ) → is_some_term task scope t ≡ true → length scope ≡ length b → is_bound (length b) t ≡ true
  some_bound t b typed long = subst (λ n. is_bound n t ≡ true) long (some_term_bound t typed)

pub one_longer : {X Y : Type 0} (xs : List X) (ys : List Y) (x : X) (y : Y) → length xs ≡ length ys → length (xs ++ x ∷ []) ≡ length (ys ++ y ∷ [])
one_longer xs ys x y long = omega (arith, length-append xs (x ∷ []), length-append ys (y ∷ []))

-- ---- formulas

module _ (task : Task) (to : ℕ → ℕ) (symmetry : IsSymmetry task to) where
  mutual
    pub holds-image : (g : Formula) (scope : List Union) (b : List ℕ) (s : State) → is_formula task scope g ≡ true → length scope ≡ length b
        → holds task (image_of_formula to g) (map to b) (image_of_state to s) ≡ holds task g b s
    holds-image (atom a) scope b s typed long =
        ap (contains (image_of_state to s)) (atom-image to b a (lifted_bound task scope task.predicates a b typed long))
        ∙ contains-image to symmetry.both_ways s (ground_atom b a)
    holds-image (equal t u) scope b s typed long =
        let parts = and_parts (is_some_term task scope t) (is_some_term task scope u) typed in
        (λ i. nat_eq (object-image to b t (some_bound task scope t b parts.0 long) i) (object-image to b u (some_bound task scope u b parts.1 long) i))
        ∙ same_objects to symmetry.both_ways (object_of b t) (object_of b u)
    holds-image (and parts) scope b s typed long = all_hold-image parts scope b s typed long
    holds-image (or parts) scope b s typed long = some_holds-image parts scope b s typed long
    holds-image (not part) scope b s typed long = ap bool.not (holds-image part scope b s typed long)
    holds-image (imply premise conclusion) scope b s typed long =
        let parts = and_parts (is_formula task scope premise) (is_formula task scope conclusion) typed in
        λ i. bool.not (holds-image premise scope b s parts.0 long i) || holds-image conclusion scope b s parts.1 long i
    holds-image (exists types part) scope b s typed long =
        let parts = and_parts (nat_lt (length scope) max_variables) (is_formula task (scope ++ types ∷ []) part) typed in
        some_object task to symmetry types (λ one. holds task part (b ++ one ∷ []) s)
        (λ one. holds task (image_of_formula to part) (map to b ++ one ∷ []) (image_of_state to s))
        (λ o. ap (λ l. holds task (image_of_formula to part) l (image_of_state to s)) (sym (map_push to b o))
        ∙ holds-image part (scope ++ types ∷ []) (b ++ o ∷ []) s parts.1 (one_longer scope b types o long))
    holds-image (forall types part) scope b s typed long =
        let parts = and_parts (nat_lt (length scope) max_variables) (is_formula task (scope ++ types ∷ []) part) typed in
        each_object task to symmetry types (λ one. holds task part (b ++ one ∷ []) s)
        (λ one. holds task (image_of_formula to part) (map to b ++ one ∷ []) (image_of_state to s))
        (λ o. ap (λ l. holds task (image_of_formula to part) l (image_of_state to s)) (sym (map_push to b o))
        ∙ holds-image part (scope ++ types ∷ []) (b ++ o ∷ []) s parts.1 (one_longer scope b types o long))

    all_hold-image : (parts : Formulas) (scope : List Union) (b : List ℕ) (s : State) → are_formulas task scope parts ≡ true → length scope ≡ length b
        → all_hold task (image_of_formulas to parts) (map to b) (image_of_state to s) ≡ all_hold task parts b s
    all_hold-image no_formula scope b s typed long = refl
    all_hold-image (more_formulas first rest) scope b s typed long =
        let parts = and_parts (is_formula task scope first) (are_formulas task scope rest) typed in
        λ i. holds-image first scope b s parts.0 long i && all_hold-image rest scope b s parts.1 long i

    some_holds-image : (parts : Formulas) (scope : List Union) (b : List ℕ) (s : State) → are_formulas task scope parts ≡ true → length scope ≡ length b
        → some_holds task (image_of_formulas to parts) (map to b) (image_of_state to s) ≡ some_holds task parts b s
    some_holds-image no_formula scope b s typed long = refl
    some_holds-image (more_formulas first rest) scope b s typed long =
        let parts = and_parts (is_formula task scope first) (are_formulas task scope rest) typed in
        λ i. holds-image first scope b s parts.0 long i || some_holds-image rest scope b s parts.1 long i
