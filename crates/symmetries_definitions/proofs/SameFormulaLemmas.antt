-- The test of formulas for equality is exact.
use Rattle.std.proofs.Common.{◌≡◌, true, refl, ap, subst}
use Rattle.std.specs.Prelude.{ℕ, List, nat_eq}
use Rattle.std.specs.Cmp.Lexicographic.{pointwise, pointwise_decides, bytes_decides}
use Rattle.std.proofs.lemmas.Bool.{and_parts, and_from, eqb-true, eq-eqb, false≢true}
use Rattle.model.specs.Task.{Term, variable, object, LiftedAtom, Formula, Formulas, atom, equal, and, or, not, imply, exists, forall, no_formula, more_formulas}
use Rattle.symmetries_definitions.specs.SameFormula.{is_same_term, is_same_lifted, is_same_formula, are_same_formulas}

term-is : (t u : Term) → is_same_term t u ≡ true → t ≡ u
term-is (variable m) (variable n) e = ap variable (eqb-true m n e)
term-is (object m) (object n) e = ap object (eqb-true m n e)
term-is (variable m) (object n) e = absurd (false≢true e)
term-is (object m) (variable n) e = absurd (false≢true e)

term-itself : (t : Term) → is_same_term t t ≡ true
term-itself (variable n) = eq-eqb n n refl
term-itself (object n) = eq-eqb n n refl

terms-decided : (ts us : List Term) → (pointwise is_same_term ts us ≡ true → ts ≡ us) × (ts ≡ us → pointwise is_same_term ts us ≡ true)
terms-decided = pointwise_decides (λ t u. (term-is t u, λ is. subst (λ v. is_same_term t v ≡ true) is (term-itself t)))

types-itself : (types : List ℕ) → pointwise nat_eq types types ≡ true
types-itself types = (bytes_decides types types).1 refl

lifted-is : (a b : LiftedAtom) → is_same_lifted a b ≡ true → a ≡ b
lifted-is a b e =
    let parts = and_parts (nat_eq a.predicate b.predicate) (pointwise is_same_term a.terms b.terms) e in
    λ i. record { predicate = eqb-true a.predicate b.predicate parts.0 i; terms = (terms-decided a.terms b.terms).0 parts.1 i }

lifted-itself : (a : LiftedAtom) → is_same_lifted a a ≡ true
lifted-itself a = and_from (nat_eq a.predicate a.predicate) (pointwise is_same_term a.terms a.terms) (eq-eqb a.predicate a.predicate refl) ((terms-decided a.terms a.terms).1 refl)

mutual
  pub formula-is : (f g : Formula) → is_same_formula f g ≡ true → f ≡ g
  formula-is (atom a) (atom b) e = ap atom (lifted-is a b e)
  formula-is (equal t u) (equal v w) e =
      let parts = and_parts (is_same_term t v) (is_same_term u w) e in λ i. equal (term-is t v parts.0 i) (term-is u w parts.1 i)
  formula-is (and fs) (and gs) e = ap and (formulas-is fs gs e)
  formula-is (or fs) (or gs) e = ap or (formulas-is fs gs e)
  formula-is (not f) (not g) e = ap not (formula-is f g e)
  formula-is (imply f g) (imply h k) e =
      let parts = and_parts (is_same_formula f h) (is_same_formula g k) e in λ i. imply (formula-is f h parts.0 i) (formula-is g k parts.1 i)
  formula-is (exists types f) (exists others g) e =
      let parts = and_parts (pointwise nat_eq types others) (is_same_formula f g) e in
      λ i. exists ((bytes_decides types others).0 parts.0 i) (formula-is f g parts.1 i)
  formula-is (forall types f) (forall others g) e =
      let parts = and_parts (pointwise nat_eq types others) (is_same_formula f g) e in
      λ i. forall ((bytes_decides types others).0 parts.0 i) (formula-is f g parts.1 i)
  formula-is _ _ e = absurd (false≢true e)

  formulas-is : (fs gs : Formulas) → are_same_formulas fs gs ≡ true → fs ≡ gs
  formulas-is no_formula no_formula e = refl
  formulas-is (more_formulas f fs) (more_formulas g gs) e =
      let parts = and_parts (is_same_formula f g) (are_same_formulas fs gs) e in λ i. more_formulas (formula-is f g parts.0 i) (formulas-is fs gs parts.1 i)
  formulas-is _ _ e = absurd (false≢true e)

mutual
  formula-itself : (f : Formula) → is_same_formula f f ≡ true
  formula-itself (atom a) = lifted-itself a
  formula-itself (equal t u) = and_from (is_same_term t t) (is_same_term u u) (term-itself t) (term-itself u)
  formula-itself (and fs) = formulas-itself fs
  formula-itself (or fs) = formulas-itself fs
  formula-itself (not f) = formula-itself f
  formula-itself (imply f g) = and_from (is_same_formula f f) (is_same_formula g g) (formula-itself f) (formula-itself g)
  formula-itself (exists types f) = and_from (pointwise nat_eq types types) (is_same_formula f f) (types-itself types) (formula-itself f)
  formula-itself (forall types f) = and_from (pointwise nat_eq types types) (is_same_formula f f) (types-itself types) (formula-itself f)

  formulas-itself : (fs : Formulas) → are_same_formulas fs fs ≡ true
  formulas-itself no_formula = refl
  formulas-itself (more_formulas f fs) = and_from (is_same_formula f f) (are_same_formulas fs fs) (formula-itself f) (formulas-itself fs)

pub formula-same : (f g : Formula) → f ≡ g → is_same_formula f g ≡ true
formula-same f g is = subst (λ h. is_same_formula f h ≡ true) is (formula-itself f)
