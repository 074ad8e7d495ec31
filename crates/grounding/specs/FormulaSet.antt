-- Two formulas are equal in one way at most: they can be compared part by part. So a ghost field may say that they are.
use Rattle.std.specs.Prelude.{◌≡◌, ℕ, Bool, true, false, ◌&&◌, List, [], ◌∷◌, nat_eq, refl}
use Rattle.std.proofs.Common.{ap, subst}
use Rattle.std.proofs.lemmas.Bool.{and_parts, and_from, eqb-true, eq-eqb, false≢true}
use mathlib.Core.HLevel.{collapsible→set}
use mathlib.Core.Bool.{Bool-set}
use Rattle.model.specs.Task.{Term, variable, object, LiftedAtom, Formula, Formulas, atom, equal, and, or, not, imply, exists, forall, no_formula, more_formulas}

abbrev same_list : {X : Type 0} → (X → X → Bool) → List X → List X → Bool
same_list same [] [] = true
same_list same (x ∷ xs) (y ∷ ys) = same x y && same_list same xs ys
same_list same _ _ = false

list-is : {X : Type 0} (same : X → X → Bool) → ((x y : X) → same x y ≡ true → x ≡ y) → (xs ys : List X) → same_list same xs ys ≡ true → xs ≡ ys
list-is same is [] [] e = refl
list-is same is [] (y ∷ ys) e = absurd (false≢true e)
list-is same is (x ∷ xs) [] e = absurd (false≢true e)
list-is same is (x ∷ xs) (y ∷ ys) e =
    let parts = and_parts (same x y) (same_list same xs ys) e in
    λ i. is x y parts.0 i ∷ list-is same is xs ys parts.1 i

list-same : {X : Type 0} (same : X → X → Bool) → ((x : X) → same x x ≡ true) → (xs : List X) → same_list same xs xs ≡ true
list-same same itself [] = refl
list-same same itself (x ∷ xs) = and_from (same x x) (same_list same xs xs) (itself x) (list-same same itself xs)

abbrev same_term : Term → Term → Bool
same_term (variable m) (variable n) = nat_eq m n
same_term (object m) (object n) = nat_eq m n
same_term _ _ = false

number-is : (m n : ℕ) → nat_eq m n ≡ true → m ≡ n
number-is m n e = eqb-true m n e

number-same : (n : ℕ) → nat_eq n n ≡ true
number-same n = eq-eqb n n refl

term-is : (s t : Term) → same_term s t ≡ true → s ≡ t
term-is (variable m) (variable n) e = ap variable (number-is m n e)
term-is (object m) (object n) e = ap object (number-is m n e)
term-is (variable m) (object n) e = absurd (false≢true e)
term-is (object m) (variable n) e = absurd (false≢true e)

term-same : (t : Term) → same_term t t ≡ true
term-same (variable n) = number-same n
term-same (object n) = number-same n

abbrev same_atom : LiftedAtom → LiftedAtom → Bool
same_atom a b = nat_eq a.predicate b.predicate && same_list same_term a.terms b.terms

atom-is : (a b : LiftedAtom) → same_atom a b ≡ true → a ≡ b
atom-is a b e =
    let parts = and_parts (nat_eq a.predicate b.predicate) (same_list same_term a.terms b.terms) e in
    λ i. record { predicate = number-is a.predicate b.predicate parts.0 i; terms = list-is same_term term-is a.terms b.terms parts.1 i }

atom-same : (a : LiftedAtom) → same_atom a a ≡ true
atom-same a = and_from (nat_eq a.predicate a.predicate) (same_list same_term a.terms a.terms) (number-same a.predicate) (list-same same_term term-same a.terms)

abbrev mutual
  same_formula : Formula → Formula → Bool
  same_formula (atom a) (atom b) = same_atom a b
  same_formula (equal s t) (equal u v) = same_term s u && same_term t v
  same_formula (and fs) (and gs) = same_formulas fs gs
  same_formula (or fs) (or gs) = same_formulas fs gs
  same_formula (not f) (not g) = same_formula f g
  same_formula (imply f g) (imply h k) = same_formula f h && same_formula g k
  same_formula (exists types f) (exists others g) = same_list nat_eq types others && same_formula f g
  same_formula (forall types f) (forall others g) = same_list nat_eq types others && same_formula f g
  same_formula _ _ = false

  same_formulas : Formulas → Formulas → Bool
  same_formulas no_formula no_formula = true
  same_formulas (more_formulas f fs) (more_formulas g gs) = same_formula f g && same_formulas fs gs
  same_formulas _ _ = false

mutual
  formula-is : (f g : Formula) → same_formula f g ≡ true → f ≡ g
  formula-is (atom a) (atom b) e = ap atom (atom-is a b e)
  formula-is (equal s t) (equal u v) e =
      let parts = and_parts (same_term s u) (same_term t v) e in λ i. equal (term-is s u parts.0 i) (term-is t v parts.1 i)
  formula-is (and fs) (and gs) e = ap and (formulas-is fs gs e)
  formula-is (or fs) (or gs) e = ap or (formulas-is fs gs e)
  formula-is (not f) (not g) e = ap not (formula-is f g e)
  formula-is (imply f g) (imply h k) e =
      let parts = and_parts (same_formula f h) (same_formula g k) e in λ i. imply (formula-is f h parts.0 i) (formula-is g k parts.1 i)
  formula-is (exists types f) (exists others g) e =
      let parts = and_parts (same_list nat_eq types others) (same_formula f g) e in
      λ i. exists (list-is nat_eq number-is types others parts.0 i) (formula-is f g parts.1 i)
  formula-is (forall types f) (forall others g) e =
      let parts = and_parts (same_list nat_eq types others) (same_formula f g) e in
      λ i. forall (list-is nat_eq number-is types others parts.0 i) (formula-is f g parts.1 i)
  formula-is _ _ e = absurd (false≢true e)

  formulas-is : (fs gs : Formulas) → same_formulas fs gs ≡ true → fs ≡ gs
  formulas-is no_formula no_formula e = refl
  formulas-is (more_formulas f fs) (more_formulas g gs) e =
      let parts = and_parts (same_formula f g) (same_formulas fs gs) e in λ i. more_formulas (formula-is f g parts.0 i) (formulas-is fs gs parts.1 i)
  formulas-is no_formula (more_formulas g gs) e = absurd (false≢true e)
  formulas-is (more_formulas f fs) no_formula e = absurd (false≢true e)

mutual
  formula-same : (f : Formula) → same_formula f f ≡ true
  formula-same (atom a) = atom-same a
  formula-same (equal s t) = and_from (same_term s s) (same_term t t) (term-same s) (term-same t)
  formula-same (and fs) = formulas-same fs
  formula-same (or fs) = formulas-same fs
  formula-same (not f) = formula-same f
  formula-same (imply f g) = and_from (same_formula f f) (same_formula g g) (formula-same f) (formula-same g)
  formula-same (exists types f) = and_from (same_list nat_eq types types) (same_formula f f) (list-same nat_eq number-same types) (formula-same f)
  formula-same (forall types f) = and_from (same_list nat_eq types types) (same_formula f f) (list-same nat_eq number-same types) (formula-same f)

  formulas-same : (fs : Formulas) → same_formulas fs fs ≡ true
  formulas-same no_formula = refl
  formulas-same (more_formulas f fs) = and_from (same_formula f f) (same_formulas fs fs) (formula-same f) (formulas-same fs)

pub formula-set : IsSet Formula
formula-set =
    collapsible→set
    (λ f g p. formula-is f g (subst (λ h. same_formula f h ≡ true) p (formula-same f)))
    (λ f g p q. ap (formula-is f g) (Bool-set (same_formula f g) true (subst (λ h. same_formula f h ≡ true) p (formula-same f)) (subst (λ h. same_formula f h ≡ true) q (formula-same f))))
