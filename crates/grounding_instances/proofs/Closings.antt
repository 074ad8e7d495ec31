-- What makes a formula statically false, by the form of the formula, judged in the initial state.
use Rattle.std.proofs.Common.{◌≡◌, ◌∙◌, ℕ, Bool, true, false, not, ◌&&◌, ◌||◌, List, [], ◌∷◌, ◌++◌, map, refl, sym, ap}
use Rattle.std.specs.Prelude.{nat_eq}
use Rattle.std.specs.Global.{Vec}
use Rattle.std.specs.List.{list_any, flat_map}
use Rattle.std.specs.FinSet.{contains}
use Rattle.std.proofs.lemmas.List.Folds.{list_any-append}
use Rattle.task.specs.declared.atoms.LiftedAtom.{LiftedAtom}
use Rattle.task.specs.declared.atoms.Term.{Term}
use Rattle.task.specs.declared.schemas.Formula.{Formula}
use Rattle.task.specs.declared.schemas.Formula as formula
use Rattle.task.specs.TaskParts.{formula_of, lifted_atom_of, term_of}
use Rattle.formulas.proofs.Trees.{sure_by_parts, list_any_map}
use Rattle.model.specs.Task as task
use Rattle.model.specs.Task.{Atom, Task}
use Rattle.model.specs.Meaning.{State, initial_state, holds, ground_atom, objects_of, object_of}
use Rattle.model.specs.Fluents.{is_fluent}
use Rattle.model.specs.SureLiterals.{Literal, literal_holds, sure}
use Rattle.model.specs.StaticallyFalse.{is_fixed, is_statically_false}
use Rattle.model.proofs.StaticLemmas.{or_false}

-- ---- atoms and equalities

not_not : (b : Bool) → not (not b) ≡ b
not_not true = refl
not_not false = refl

module _ (t : Task) (s : State) (start : (a : Atom) → contains s a ≡ contains (initial_state t) a) (binding : List ℕ) (f : Formula) where
  module _ (a : LiftedAtom) (is : f ≡ formula.Atom a) where
    abbrev ground : Atom
    ground = ground_atom binding (lifted_atom_of a)

    atom-closed : is_statically_false t (formula_of f) binding ≡ (not (is_fluent t a.predicate.0) && not (contains (initial_state t) ground))
    atom-closed = ap (λ g. is_statically_false t (formula_of g) binding) is ∙ or_false _

    not_atom-closed : is_statically_false t (task.not (formula_of f)) binding ≡ (not (is_fluent t a.predicate.0) && not (not (contains (initial_state t) ground)))
    not_atom-closed = ap (λ g. is_statically_false t (task.not (formula_of g)) binding) is ∙ or_false _

    at_start : (held : Bool) → held ≡ holds t (formula_of f) binding s → held ≡ contains (initial_state t) ground
    at_start held here = here ∙ ap (λ g. holds t (formula_of g) binding s) is ∙ start ground

    pub atom-fluent : is_fluent t a.predicate.0 ≡ true → false ≡ is_statically_false t (formula_of f) binding
    atom-fluent fluent = sym (atom-closed ∙ ap (λ b. not b && not (contains (initial_state t) ground)) fluent)

    pub atom-static : (held : Bool) → is_fluent t a.predicate.0 ≡ false → held ≡ holds t (formula_of f) binding s → not held ≡ is_statically_false t (formula_of f) binding
    atom-static held static here = sym (atom-closed ∙ (λ i. not (static i) && not (sym (at_start held here) i)))

    pub not_atom-fluent : is_fluent t a.predicate.0 ≡ true → false ≡ is_statically_false t (task.not (formula_of f)) binding
    not_atom-fluent fluent = sym (not_atom-closed ∙ ap (λ b. not b && not (not (contains (initial_state t) ground))) fluent)

    pub not_atom-static : (held : Bool) → is_fluent t a.predicate.0 ≡ false → held ≡ holds t (formula_of f) binding s → held ≡ is_statically_false t (task.not (formula_of f)) binding
    not_atom-static held static here = sym (not_atom-closed ∙ (λ i. not (static i) && not (not (sym (at_start held here) i))) ∙ not_not held)

  module _ (x y : Term) (is : f ≡ formula.Equal x y) where
    pub equal-closed : (held : Bool) → held ≡ holds t (formula_of f) binding s → not held ≡ is_statically_false t (formula_of f) binding
    equal-closed held here =
        ap not (here ∙ ap (λ g. holds t (formula_of g) binding s) is)
        ∙ sym (ap (λ g. is_statically_false t (formula_of g) binding) is ∙ or_false _)

    pub not_equal-closed : (held : Bool) → held ≡ holds t (formula_of f) binding s → held ≡ is_statically_false t (task.not (formula_of f)) binding
    not_equal-closed held here =
        here ∙ ap (λ g. holds t (formula_of g) binding s) is
        ∙ sym (ap (λ g. is_statically_false t (task.not (formula_of g)) binding) is ∙ or_false _ ∙ not_not (nat_eq (object_of binding (term_of x)) (object_of binding (term_of y))))

-- ---- conjunctions and `forall`

any-flat_map : {X Y : Type 0} (p : Y → Bool) (f : X → List Y) (xs : List X) → list_any p (flat_map f xs) ≡ list_any (λ x. list_any p (f x)) xs
any-flat_map p f [] = refl
any-flat_map p f (x ∷ xs) = list_any-append p (f x) (flat_map f xs) ∙ ap (λ b. list_any p (f x) || b) (any-flat_map p f xs)

abbrev closes : Task → Literal → Bool
closes t l = is_fixed t l && not (literal_holds (initial_state t) l)

pub closed_by_parts : (t : Task) (binding : List ℕ) (f : Formula) (parts : Vec Formula) (items : List Formula) → f ≡ formula.And parts → items ≡ parts.items
    → is_statically_false t (formula_of f) binding ≡ list_any (λ part. is_statically_false t part binding) (map formula_of items)
closed_by_parts t binding f parts items is same =
    ap (list_any (closes t)) (sure_by_parts f parts items is same t binding)
    ∙ any-flat_map (closes t) (λ part. sure t (formula_of part) binding) items
    ∙ sym (list_any_map (λ part. is_statically_false t part binding) formula_of items)

pub closed_by_objects : (t : Task) (binding : List ℕ) (types : task.Union) (part : task.Formula)
    → is_statically_false t (task.forall types part) binding ≡ list_any (λ one. is_statically_false t part (binding ++ one ∷ [])) (objects_of t types)
closed_by_objects t binding types part = any-flat_map (closes t) (λ one. sure t part (binding ++ one ∷ [])) (objects_of t types)
