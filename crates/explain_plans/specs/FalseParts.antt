-- Why a formula does not hold: its minimal false parts, which make it false.
use Rattle.std.specs.Prelude.{◌≡◌, ℕ, Bool, false, IsTrue, List, [], ◌∷◌, ◌++◌, drop, slice_get, Some, ◌↔◌, if◌then◌else◌}
use Rattle.std.specs.List.{flat_map}
use Rattle.explain_plans.specs.NamesLeft.{names_left}
use Rattle.model.specs.Task.{Task, Name, Formula, Formulas, and, imply, forall, no_formula, more_formulas}
use Rattle.model.specs.Meaning.{State, holds, objects_of}

-- a part of a formula, with a binding of the variables in its scope, and names whose first ones are those of its quantified
-- variables
pub record Part : Type 0 where
  pub formula : Formula
  pub objects : List ℕ
  pub names : List Name

-- the part holds in the state
abbrev pub part_holds : Task → State → Part → Bool
part_holds task state p = holds task p.formula p.objects state

-- the formula itself; nothing if it holds
abbrev pub itself_if_false : Task → Formula → List ℕ → List Name → State → List Part
itself_if_false task formula objects names state =
    if holds task formula objects state then [] else record { formula = formula; objects = objects; names = names } ∷ []

-- The minimal false parts of a formula in a state, from the left, under a binding: those of each part of an `and`, of the
-- conclusion of an `imply` whose premise holds, and of the part of a `forall` for each object of its variable's types. Every
-- other false formula is false as a whole and is its own minimal part. The names begin with those of its quantified variables;
-- each part gets them from its own on.
abbrev mutual
  pub false_parts : Task → Formula → List ℕ → List Name → State → List Part
  false_parts task (and parts) objects names state = false_parts_of_all task parts objects names state
  false_parts task (imply premise conclusion) objects names state =
      if holds task premise objects state then false_parts task conclusion objects (names_left premise names) state else []
  false_parts task (forall types part) objects names state =
      flat_map (λ one. false_parts task part (objects ++ one ∷ []) (drop 1 names) state) (objects_of task types)
  false_parts task formula objects names state = itself_if_false task formula objects names state

  pub false_parts_of_all : Task → Formulas → List ℕ → List Name → State → List Part
  false_parts_of_all task no_formula objects names state = []
  false_parts_of_all task (more_formulas first rest) objects names state =
      false_parts task first objects names state ++ false_parts_of_all task rest objects (names_left first names) state

-- a formula holds if it has no false part, and each false part is false
pub record FalsePartsReport : Type 0 where
  pub none : (task : Task) (formula : Formula) (objects : List ℕ) (names : List Name) (state : State)
      → IsTrue (holds task formula objects state) ↔ (false_parts task formula objects names state ≡ [])
  pub are_false : (task : Task) (formula : Formula) (objects : List ℕ) (names : List Name) (state : State) (number : ℕ) (part : Part)
      → slice_get (false_parts task formula objects names state) number ≡ Some part → part_holds task state part ≡ false
