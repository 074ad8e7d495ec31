-- If a formula holds, its sure literals hold.
use Rattle.std.proofs.Common.{◌≡◌, ℕ, Bool, true, List, [], ◌∷◌, ◌++◌, refl, ◌∙◌}
use Rattle.std.specs.List.{flat_map, list_all}
use Rattle.std.specs.FinSet.{contains}
use Rattle.std.specs.Prelude.{nat_eq}
use Rattle.std.specs.Prelude as bool
use Rattle.std.proofs.lemmas.Bool.{and_parts, and_from}
use Rattle.std.proofs.lemmas.List.Folds.{list_all-append}
use Rattle.model.specs.Task.{Task, Formula, Formulas, atom, equal, and, or, not, imply, exists, forall, no_formula, more_formulas}
use Rattle.model.specs.Meaning.{State, object_of, objects_of, ground_atom, holds, all_hold}
use Rattle.model.specs.SureLiterals.{literal_holds, sure_not, sure, all_sure, SureLiteralsHold}

-- all elements of two lists pass
both_pass : {X : Type 0} (test : X → Bool) (first rest : List X) → list_all test first ≡ true → list_all test rest ≡ true → list_all test (first ++ rest) ≡ true
both_pass test first rest left right = list_all-append test first rest ∙ and_from (list_all test first) (list_all test rest) left right

-- all elements of the lists for each of these pass
each_passes : {X Y : Type 0} (test : Y → Bool) (of : X → List Y) (holds : X → Bool) → ((x : X) → holds x ≡ true → list_all test (of x) ≡ true)
    → (xs : List X) → list_all holds xs ≡ true → list_all test (flat_map of xs) ≡ true
each_passes test of holds each [] all = refl
each_passes test of holds each (x ∷ xs) all =
    let parts = and_parts (holds x) (list_all holds xs) all in
    both_pass test (of x) (flat_map of xs) (each x parts.0) (each_passes test of holds each xs parts.1)

-- the literal for an atom, or an equality, that does not hold
sure_not_hold : (task : Task) (part : Formula) (binding : List ℕ) (state : State) → bool.not (holds task part binding state) ≡ true → list_all (literal_holds state) (sure_not part binding) ≡ true
sure_not_hold task (atom a) binding state is = and_from (bool.not (contains state (ground_atom binding a))) true is refl
sure_not_hold task (equal t u) binding state is = and_from (bool.not (nat_eq (object_of binding t) (object_of binding u))) true is refl
sure_not_hold task (and parts) binding state is = refl
sure_not_hold task (or parts) binding state is = refl
sure_not_hold task (not part) binding state is = refl
sure_not_hold task (imply premise conclusion) binding state is = refl
sure_not_hold task (exists types part) binding state is = refl
sure_not_hold task (forall types part) binding state is = refl

mutual
  -- if a formula holds, its sure literals hold
  pub sure_literals_hold : SureLiteralsHold
  sure_literals_hold task (atom a) binding state is = and_from (contains state (ground_atom binding a)) true is refl
  sure_literals_hold task (equal t u) binding state is = and_from (nat_eq (object_of binding t) (object_of binding u)) true is refl
  sure_literals_hold task (and parts) binding state is = all_sure_hold task parts binding state is
  sure_literals_hold task (or parts) binding state is = refl
  sure_literals_hold task (not part) binding state is = sure_not_hold task part binding state is
  sure_literals_hold task (imply premise conclusion) binding state is = refl
  sure_literals_hold task (exists types part) binding state is = refl
  sure_literals_hold task (forall types part) binding state is =
      each_passes (literal_holds state) (λ one. sure task part (binding ++ one ∷ [])) (λ one. holds task part (binding ++ one ∷ []) state)
      (λ one here. sure_literals_hold task part (binding ++ one ∷ []) state here) (objects_of task types) is

  -- the sure literals of its parts
  all_sure_hold : (task : Task) (parts : Formulas) (binding : List ℕ) (state : State) → all_hold task parts binding state ≡ true → list_all (literal_holds state) (all_sure task parts binding) ≡ true
  all_sure_hold task no_formula binding state is = refl
  all_sure_hold task (more_formulas first rest) binding state is =
      let parts = and_parts (holds task first binding state) (all_hold task rest binding state) is in
      both_pass (literal_holds state) (sure task first binding) (all_sure task rest binding)
      (sure_literals_hold task first binding state parts.0) (all_sure_hold task rest binding state parts.1)
