-- What well-typedness of a task says about its parts.
use Rattle.std.specs.Prelude.{◌≡◌, ℕ, ◌+◌, ◌≤◌, ◌<◌, true, false, ◌&&◌, nat_le, List, [], ◌∷◌, ◌++◌, length, map, take, slice_get, IsTrue, None, Some, refl}
use Rattle.std.proofs.Common.{sym, ◌∙◌, ap, subst, get_or, arith, true≢false}
use Rattle.std.specs.Cmp.{first_so, second_so}
use Rattle.std.specs.Cmp.Lexicographic.{pointwise, as_long}
use Rattle.std.specs.List.{list_all}
use Rattle.std.specs.Option.{option_map_or}
use Rattle.std.proofs.lemmas.Bool.Decides.{nat_tests}
use Rattle.std.proofs.lemmas.List.{take_all, take_more, map-append}
use Rattle.std.proofs.Math.ListN.{length-map}
use Rattle.task.specs.declared.atoms.ObjectId.{ObjectId}
use Rattle.task.specs.declared.atoms.Term.{Term}
use Rattle.task.specs.declared.atoms.LiftedAtom.{LiftedAtom}
use Rattle.task.specs.declared.schemas.Formula.{Formula}
use Rattle.task.specs.declared.schemas.Formula as formula
use Rattle.task.specs.TaskParts.{object_of, term_of, lifted_atom_of, formula_of}
use Rattle.formulas.specs.State.{FitsFormula}
use Rattle.model.specs.Task as task
use Rattle.model.specs.WellTyped.{is_task, is_term, is_lifted_of, is_lifted_atom, is_formula, has_few_arguments, max_arguments}
use Rattle.model.specs.Meaning as meaning
use Rattle.model.proofs.Tests.{passes_got}

-- ---- well-typed atoms

few_here : (count : ℕ) → nat_le count max_arguments ≡ true → count ≤ max_arguments
few_here count le = grind (arith, nat_tests)

module _ (declared : List task.Predicate) (few : list_all has_few_arguments declared ≡ true) (t : task.Task) (scope : List task.Union) (a : task.LiftedAtom) where
  -- well-typed terms of one of these predicates, or functions, are no more than the allowed arguments
  lifted_few : IsTrue (is_lifted_of declared t scope a) → length a.terms ≤ max_arguments
  lifted_few typed =
      elim (slice_get declared a.predicate) as (λ o. slice_get declared a.predicate ≡ o
      → option_map_or (λ (p : task.Predicate). pointwise (is_term t scope) p.arguments a.terms) o false ≡ true → length a.terms ≤ max_arguments) [
        | None ↦ λ at none. absurd (true≢false (sym none))
        | Some p ↦ λ at fit.
            subst (λ n. n ≤ max_arguments) (as_long (is_term t scope) p.arguments a.terms fit)
            (few_here (length p.arguments) (passes_got has_few_arguments declared a.predicate p at few))
      ] refl typed

module _ (t : task.Task) (scope : List task.Union) (a : LiftedAtom) (well : IsTrue (is_task t)) where
  declared_few : (list_all has_few_arguments t.predicates && list_all has_few_arguments t.functions) ≡ true
  declared_few = second_so _ _ (first_so _ _ (first_so _ _ (first_so _ _ well)))

  -- the same for an atom of the code, and for a function
  pub terms_few : IsTrue (is_lifted_atom t scope (lifted_atom_of a)) → length a.terms.items ≤ max_arguments
  terms_few typed =
      subst (λ n. n ≤ max_arguments) (length-map a.terms.items term_of) (lifted_few t.predicates (first_so _ _ declared_few) t scope (lifted_atom_of a) typed)

  pub function_terms_few : IsTrue (is_lifted_of t.functions t scope (lifted_atom_of a)) → length a.terms.items ≤ max_arguments
  function_terms_few typed =
      subst (λ n. n ≤ max_arguments) (length-map a.terms.items term_of) (lifted_few t.functions (second_so _ _ declared_few) t scope (lifted_atom_of a) typed)

-- the same for a formula that is an atom, in which objects fit the variables
module _ (t : task.Task) (f : Formula) (a : LiftedAtom) (objects : List ObjectId) (is : f ≡ formula.Atom a) (given : FitsFormula t (formula_of f) (map object_of objects)) where
  typed_atom : IsTrue (is_lifted_atom t given.scope (lifted_atom_of a))
  typed_atom = ap (λ g. is_formula t given.scope (formula_of g)) (sym is) ∙ given.typed

  pub atom_few : IsTrue (is_task t) → length a.terms.items ≤ max_arguments
  atom_few well = terms_few t given.scope a well typed_atom

-- ---- the objects that terms denote

pub named_more : (binding : List ℕ) (objects : List ObjectId) (terms : List Term) (i : ℕ) (d : Term) (o : ObjectId) → i < length terms
    → map object_of objects ≡ map (λ t. meaning.object_of binding (term_of t)) (take i terms)
    → o.0 ≡ meaning.object_of binding (term_of (get_or terms i d))
    → map object_of (objects ++ o ∷ []) ≡ map (λ t. meaning.object_of binding (term_of t)) (take (i + 1) terms)
named_more binding objects terms i d o lt before here =
    map-append object_of objects (o ∷ []) ∙ (λ j. before j ++ here j ∷ [])
    ∙ sym (ap (map (λ t. meaning.object_of binding (term_of t))) (take_more terms i d lt) ∙ map-append (λ t. meaning.object_of binding (term_of t)) (take i terms) (get_or terms i d ∷ []))

named_list : (binding : List ℕ) (terms : List Term) → map (λ t. meaning.object_of binding (term_of t)) terms ≡ map (meaning.object_of binding) (map term_of terms)
named_list binding [] = refl
named_list binding (t ∷ terms) = ap (λ rest. meaning.object_of binding (term_of t) ∷ rest) (named_list binding terms)

pub named_whole : (binding : List ℕ) (objects : List ObjectId) (terms : List Term) (i : ℕ) → length terms ≤ i
    → map object_of objects ≡ map (λ t. meaning.object_of binding (term_of t)) (take i terms)
    → map object_of objects ≡ map (meaning.object_of binding) (map term_of terms)
named_whole binding objects terms i past all =
    all ∙ ap (map (λ t. meaning.object_of binding (term_of t))) (take_all i terms past) ∙ named_list binding terms
