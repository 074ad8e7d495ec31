-- Atoms that a precondition asks for together with their negations, and atoms that an effect both adds and deletes.
use Rattle.std.specs.Prelude.{Bool, false, ◌&&◌, ◌||◌, ◌==◌}
use Rattle.std.specs.Cmp.Lexicographic.{pointwise}
use Rattle.model.specs.Task.{Term, variable, object, LiftedAtom, Formula, Formulas, atom, equal, and, or, not, imply, exists, forall, no_formula, more_formulas, EffectLiteral, add, delete, Effect, Effects, literal, both, each, when, no_effect, more_effects}

abbrev pub is_same_term : Term → Term → Bool
is_same_term (variable a) (variable b) = a == b
is_same_term (variable a) (object b) = false
is_same_term (object a) (variable b) = false
is_same_term (object a) (object b) = a == b

-- the same predicate of the same terms
abbrev pub is_same_atom : LiftedAtom → LiftedAtom → Bool
is_same_atom a b = a.predicate == b.predicate && pointwise is_same_term a.terms b.terms

-- some conjunct passes the test: the formula itself, or one under nothing but `and`
abbrev mutual
  pub has_conjunct : (Formula → Bool) → Formula → Bool
  has_conjunct test (atom a) = test (atom a)
  has_conjunct test (equal t u) = test (equal t u)
  has_conjunct test (and parts) = some_has_conjunct test parts
  has_conjunct test (or parts) = test (or parts)
  has_conjunct test (not part) = test (not part)
  has_conjunct test (imply premise conclusion) = test (imply premise conclusion)
  has_conjunct test (exists types part) = test (exists types part)
  has_conjunct test (forall types part) = test (forall types part)

  pub some_has_conjunct : (Formula → Bool) → Formulas → Bool
  some_has_conjunct test no_formula = false
  some_has_conjunct test (more_formulas first rest) = has_conjunct test first || some_has_conjunct test rest

-- the formula is this atom
abbrev pub is_atom : LiftedAtom → Formula → Bool
is_atom a (atom b) = is_same_atom a b
is_atom a _ = false

-- the formula is the negation of this atom
abbrev pub is_negation_of : LiftedAtom → Formula → Bool
is_negation_of a (not part) = is_atom a part
is_negation_of a _ = false

-- the formula is an atom, whose negation is a conjunct of this one
abbrev pub is_denied : (whole : Formula) → Formula → Bool
is_denied whole (atom a) = has_conjunct (is_negation_of a) whole
is_denied whole _ = false

-- an atom and its negation are conjuncts
abbrev pub is_contradictory : Formula → Bool
is_contradictory f = has_conjunct (is_denied f) f

-- some literal that takes effect under no condition passes the test: the effect itself, or one under nothing but `and`
abbrev mutual
  pub has_sure_literal : (EffectLiteral → Bool) → Effect → Bool
  has_sure_literal test (literal l) = test l
  has_sure_literal test (both parts) = some_has_sure_literal test parts
  has_sure_literal test (each types part) = false
  has_sure_literal test (when condition literals) = false

  pub some_has_sure_literal : (EffectLiteral → Bool) → Effects → Bool
  some_has_sure_literal test no_effect = false
  some_has_sure_literal test (more_effects first rest) = has_sure_literal test first || some_has_sure_literal test rest

abbrev pub is_addition_of : LiftedAtom → EffectLiteral → Bool
is_addition_of a (add b) = is_same_atom a b
is_addition_of a (delete b) = false

-- the literal deletes an atom, which the effect adds
abbrev pub is_undone : (whole : Effect) → EffectLiteral → Bool
is_undone whole (add a) = false
is_undone whole (delete a) = has_sure_literal (is_addition_of a) whole

-- an atom is both added and deleted, so it is true afterwards
abbrev pub is_adding_what_it_deletes : Effect → Bool
is_adding_what_it_deletes e = has_sure_literal (is_undone e) e
