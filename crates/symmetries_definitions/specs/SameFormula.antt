-- Whether two formulas are equal, part by part.
use Rattle.std.specs.Prelude.{Bool, true, false, ◌&&◌, ◌==◌, nat_eq}
use Rattle.std.specs.Cmp.Lexicographic.{pointwise}
use Rattle.model.specs.Task.{Term, variable, object, LiftedAtom, Formula, Formulas, atom, equal, and, or, not, imply, exists, forall, no_formula, more_formulas}

abbrev pub is_same_term : Term → Term → Bool
is_same_term (variable m) (variable n) = m == n
is_same_term (object m) (object n) = m == n
is_same_term _ _ = false

abbrev pub is_same_lifted : LiftedAtom → LiftedAtom → Bool
is_same_lifted a b = a.predicate == b.predicate && pointwise is_same_term a.terms b.terms

abbrev mutual
  pub is_same_formula : Formula → Formula → Bool
  is_same_formula (atom a) (atom b) = is_same_lifted a b
  is_same_formula (equal t u) (equal v w) = is_same_term t v && is_same_term u w
  is_same_formula (and fs) (and gs) = are_same_formulas fs gs
  is_same_formula (or fs) (or gs) = are_same_formulas fs gs
  is_same_formula (not f) (not g) = is_same_formula f g
  is_same_formula (imply f g) (imply h k) = is_same_formula f h && is_same_formula g k
  is_same_formula (exists types f) (exists others g) = pointwise nat_eq types others && is_same_formula f g
  is_same_formula (forall types f) (forall others g) = pointwise nat_eq types others && is_same_formula f g
  is_same_formula _ _ = false

  pub are_same_formulas : Formulas → Formulas → Bool
  are_same_formulas no_formula no_formula = true
  are_same_formulas (more_formulas f fs) (more_formulas g gs) = is_same_formula f g && are_same_formulas fs gs
  are_same_formulas _ _ = false
