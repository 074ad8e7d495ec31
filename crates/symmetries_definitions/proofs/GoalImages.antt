-- The goal holds in a state exactly if it holds in its image, provided that its conjuncts are mapped onto its conjuncts.
use Rattle.std.proofs.Common.{◌≡◌, ◌∙◌, ℕ, Bool, true, false, ◌&&◌, List, [], ◌∷◌, map, refl, sym, ap}
use Rattle.std.specs.List.{list_all}
use Rattle.std.proofs.lemmas.List.Folds.{list_all-append}
use Rattle.model.specs.Task.{Union, LiftedAtom, Term, variable, object, Formula, Formulas, atom, equal, and, or, not, imply, exists, forall, no_formula, more_formulas, Task}
use Rattle.model.specs.Meaning.{State, holds, all_hold, meets_goal}
use Rattle.model.specs.WellTyped.{is_formula, are_formulas}
use Rattle.symmetries_definitions.specs.Exchanges.{image_of_state, image_of_term, image_of_lifted, image_of_formula, image_of_formulas}
use Rattle.symmetries_definitions.specs.Symmetries.{conjuncts, conjuncts_of_all, IsSymmetry}
use Rattle.symmetries_definitions.proofs.Lists.{tests_alike, all-at, all-from}
use Rattle.symmetries_definitions.proofs.Images.{state_twice}
use Rattle.symmetries_definitions.proofs.FormulaImages.{holds-image}

-- ---- the image of the image

module _ (to : ℕ → ℕ) (both_ways : (o : ℕ) → to (to o) ≡ o) where
  term_twice : (t : Term) → image_of_term to (image_of_term to t) ≡ t
  term_twice (variable number) = refl
  term_twice (object number) = ap object (both_ways number)

  terms_twice : (ts : List Term) → map (image_of_term to) (map (image_of_term to) ts) ≡ ts
  terms_twice [] = refl
  terms_twice (t ∷ ts) = λ i. term_twice t i ∷ terms_twice ts i

  lifted_twice : (a : LiftedAtom) → image_of_lifted to (image_of_lifted to a) ≡ a
  lifted_twice a = λ i. record { predicate = a.predicate; terms = terms_twice a.terms i }

  mutual
    formula_twice : (g : Formula) → image_of_formula to (image_of_formula to g) ≡ g
    formula_twice (atom a) = ap atom (lifted_twice a)
    formula_twice (equal t u) = λ i. equal (term_twice t i) (term_twice u i)
    formula_twice (and parts) = ap and (formulas_twice parts)
    formula_twice (or parts) = ap or (formulas_twice parts)
    formula_twice (not part) = ap not (formula_twice part)
    formula_twice (imply premise conclusion) = λ i. imply (formula_twice premise i) (formula_twice conclusion i)
    formula_twice (exists types part) = ap (exists types) (formula_twice part)
    formula_twice (forall types part) = ap (forall types) (formula_twice part)

    formulas_twice : (gs : Formulas) → image_of_formulas to (image_of_formulas to gs) ≡ gs
    formulas_twice no_formula = refl
    formulas_twice (more_formulas first rest) = λ i. more_formulas (formula_twice first i) (formulas_twice rest i)

-- ---- conjuncts

and_nothing : (b : Bool) → b ≡ (b && true)
and_nothing true = refl
and_nothing false = refl

-- a test that passes an `and` if it passes each part
module _ (test : Formula → Bool) (all : Formulas → Bool) (of_and : (parts : Formulas) → test (and parts) ≡ all parts) (of_none : all no_formula ≡ true)
    (of_more : (first : Formula) (rest : Formulas) → all (more_formulas first rest) ≡ (test first && all rest)) where
  mutual
    by_conjuncts : (g : Formula) → test g ≡ list_all test (conjuncts g)
    by_conjuncts (atom a) = and_nothing (test (atom a))
    by_conjuncts (equal t u) = and_nothing (test (equal t u))
    by_conjuncts (and parts) = of_and parts ∙ by_all_conjuncts parts
    by_conjuncts (or parts) = and_nothing (test (or parts))
    by_conjuncts (not part) = and_nothing (test (not part))
    by_conjuncts (imply premise conclusion) = and_nothing (test (imply premise conclusion))
    by_conjuncts (exists types part) = and_nothing (test (exists types part))
    by_conjuncts (forall types part) = and_nothing (test (forall types part))

    by_all_conjuncts : (gs : Formulas) → all gs ≡ list_all test (conjuncts_of_all gs)
    by_all_conjuncts no_formula = of_none
    by_all_conjuncts (more_formulas first rest) =
        of_more first rest ∙ (λ i. by_conjuncts first i && by_all_conjuncts rest i)
        ∙ sym (list_all-append test (conjuncts first) (conjuncts_of_all rest))

holds_by_conjuncts : (task : Task) (b : List ℕ) (s : State) (g : Formula) → holds task g b s ≡ list_all (λ part. holds task part b s) (conjuncts g)
holds_by_conjuncts task b s = by_conjuncts (λ part. holds task part b s) (λ parts. all_hold task parts b s) (λ parts. refl) refl (λ first rest. refl)

typed_by_conjuncts : (task : Task) (scope : List Union) (g : Formula) → is_formula task scope g ≡ list_all (is_formula task scope) (conjuncts g)
typed_by_conjuncts task scope = by_conjuncts (is_formula task scope) (are_formulas task scope) (λ parts. refl) refl (λ first rest. refl)

-- ---- the goal

module _ (task : Task) (to : ℕ → ℕ) (symmetry : IsSymmetry task to) (typed : is_formula task [] task.goal ≡ true) where
  goal_goes : (s : State) → meets_goal task s ≡ true → meets_goal task (image_of_state to s) ≡ true
  goal_goes s met =
      holds_by_conjuncts task [] (image_of_state to s) task.goal
      ∙ all-from (λ part. holds task part [] (image_of_state to s)) (conjuncts task.goal) (λ part at.
      let there = symmetry.goal part at in
      ap (λ g. holds task g [] (image_of_state to s)) (sym (formula_twice to symmetry.both_ways part))
      ∙ holds-image task to symmetry (image_of_formula to part) [] [] s
      (all-at (is_formula task []) (conjuncts task.goal) (image_of_formula to part) (sym (typed_by_conjuncts task [] task.goal) ∙ typed) there) refl
      ∙ all-at (λ g. holds task g [] s) (conjuncts task.goal) (image_of_formula to part) (sym (holds_by_conjuncts task [] s task.goal) ∙ met) there)

  pub goal-image : (s : State) → meets_goal task (image_of_state to s) ≡ meets_goal task s
  goal-image s =
      tests_alike (meets_goal task (image_of_state to s)) (meets_goal task s)
      (λ met. ap (meets_goal task) (sym (state_twice to symmetry.both_ways s)) ∙ goal_goes (image_of_state to s) met)
      (goal_goes s)
