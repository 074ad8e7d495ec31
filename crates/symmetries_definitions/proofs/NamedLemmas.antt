-- What names only fixed objects is its own image.
use Rattle.std.proofs.Common.{◌≡◌, ℕ, List, [], ◌∷◌, ◌++◌, map, refl, ap}
use Rattle.std.specs.Prelude.{Contains}
use Rattle.std.specs.List.{flat_map}
use Rattle.std.proofs.lemmas.List.Elements.{Contains-append_left, Contains-append_right}
use Rattle.model.specs.Task.{LiftedAtom, Term, variable, object, Formula, Formulas, atom, equal, and, or, not, imply, exists, forall, no_formula, more_formulas, EffectLiteral, add, delete, Effect, Effects, literal, both, each, when, no_effect, more_effects, Increase, by_number, by_function}
use Rattle.model.proofs.ListLemmas.{Contains-here}
use Rattle.symmetries_definitions.specs.Exchanges.{image_of_term, image_of_lifted, image_of_formula, image_of_formulas, image_of_literal, image_of_effect, image_of_effects, image_of_increase}
use Rattle.symmetries_definitions.specs.NamedObjects.{named_in_term, named_in_lifted, named_in_formula, named_in_formulas, named_in_literal, named_in_effect, named_in_effects, named_in_increase}

module _ (to : ℕ → ℕ) where
  -- these objects are fixed
  abbrev pub Stay : List ℕ → Type 0
  Stay objects = (o : ℕ) → Contains objects o → to o ≡ o

  pub first_stay : (xs ys : List ℕ) → Stay (xs ++ ys) → Stay xs
  first_stay xs ys stay o at = stay o (Contains-append_left xs ys o at)

  pub last_stay : (xs ys : List ℕ) → Stay (xs ++ ys) → Stay ys
  last_stay xs ys stay o at = stay o (Contains-append_right xs ys o at)

  each_same : {X : Type 0} (named : X → List ℕ) (image : X → X) → ((x : X) → Stay (named x) → image x ≡ x) → (xs : List X) → Stay (flat_map named xs) → map image xs ≡ xs
  each_same named image same [] stay = refl
  each_same named image same (x ∷ xs) stay =
      λ i. same x (first_stay (named x) (flat_map named xs) stay) i ∷ each_same named image same xs (last_stay (named x) (flat_map named xs) stay) i

  same_term : (t : Term) → Stay (named_in_term t) → image_of_term to t ≡ t
  same_term (variable number) stay = refl
  same_term (object number) stay = ap object (stay number (Contains-here number []))

  same_lifted : (a : LiftedAtom) → Stay (named_in_lifted a) → image_of_lifted to a ≡ a
  same_lifted a stay = λ i. record { predicate = a.predicate; terms = each_same named_in_term (image_of_term to) same_term a.terms stay i }

  mutual
    pub same_formula : (g : Formula) → Stay (named_in_formula g) → image_of_formula to g ≡ g
    same_formula (atom a) stay = ap atom (same_lifted a stay)
    same_formula (equal t u) stay =
        λ i. equal (same_term t (first_stay (named_in_term t) (named_in_term u) stay) i) (same_term u (last_stay (named_in_term t) (named_in_term u) stay) i)
    same_formula (and parts) stay = ap and (same_formulas parts stay)
    same_formula (or parts) stay = ap or (same_formulas parts stay)
    same_formula (not part) stay = ap not (same_formula part stay)
    same_formula (imply premise conclusion) stay =
        λ i. imply (same_formula premise (first_stay (named_in_formula premise) (named_in_formula conclusion) stay) i)
        (same_formula conclusion (last_stay (named_in_formula premise) (named_in_formula conclusion) stay) i)
    same_formula (exists types part) stay = ap (exists types) (same_formula part stay)
    same_formula (forall types part) stay = ap (forall types) (same_formula part stay)

    same_formulas : (gs : Formulas) → Stay (named_in_formulas gs) → image_of_formulas to gs ≡ gs
    same_formulas no_formula stay = refl
    same_formulas (more_formulas first rest) stay =
        λ i. more_formulas (same_formula first (first_stay (named_in_formula first) (named_in_formulas rest) stay) i)
        (same_formulas rest (last_stay (named_in_formula first) (named_in_formulas rest) stay) i)

  same_literal : (l : EffectLiteral) → Stay (named_in_literal l) → image_of_literal to l ≡ l
  same_literal (add a) stay = ap add (same_lifted a stay)
  same_literal (delete a) stay = ap delete (same_lifted a stay)

  mutual
    pub same_effect : (e : Effect) → Stay (named_in_effect e) → image_of_effect to e ≡ e
    same_effect (literal l) stay = ap literal (same_literal l stay)
    same_effect (both parts) stay = ap both (same_effects parts stay)
    same_effect (each types part) stay = ap (each types) (same_effect part stay)
    same_effect (when condition literals) stay =
        λ i. when (same_formula condition (first_stay (named_in_formula condition) (flat_map named_in_literal literals) stay) i)
        (each_same named_in_literal (image_of_literal to) same_literal literals (last_stay (named_in_formula condition) (flat_map named_in_literal literals) stay) i)

    same_effects : (es : Effects) → Stay (named_in_effects es) → image_of_effects to es ≡ es
    same_effects no_effect stay = refl
    same_effects (more_effects first rest) stay =
        λ i. more_effects (same_effect first (first_stay (named_in_effect first) (named_in_effects rest) stay) i)
        (same_effects rest (last_stay (named_in_effect first) (named_in_effects rest) stay) i)

  pub same_increase : (e : Increase) → Stay (named_in_increase e) → image_of_increase to e ≡ e
  same_increase (by_number amount) stay = refl
  same_increase (by_function f) stay = ap by_function (same_lifted f stay)
