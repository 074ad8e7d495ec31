-- Worked examples of formulas: which of them hold, whatever the state, and what their sure literals are. Each is chosen to expose
-- a wrong reading.
use Rattle.std.specs.Prelude.{◌≡◌, ℕ, Bool, true, false, List, [], ◌∷◌, replicate}
use Rattle.model.specs.Task.{variable, object, Formula, atom, equal, and, or, not, imply, exists, forall}
use Rattle.model.specs.Meaning.{State, holds}
use Rattle.model.specs.WellTyped.{is_formula}
use Rattle.model.specs.SureLiterals.{is_true, is_false, are_same, are_different, sure}
use Rattle.model.specs.Examples.{formulas, lifted, ground, fleet, trucks, vehicles, boats, place_or_truck}

-- (= t t), which holds, and (= t v), which does not
abbrev pub yes : Formula
yes = equal (object 0) (object 0)

abbrev pub no : Formula
no = equal (object 0) (object 1)

-- the variable of this number is this object
abbrev pub is_object : ℕ → ℕ → Formula
is_object number name = equal (variable number) (object name)

-- in any state, under this binding of the variables
abbrev pub is : Formula → List ℕ → Bool → Type 0
is formula binding answer = (state : State) → holds fleet formula binding state ≡ answer

pub record AreJudged : Type 0 where
  -- two objects are the same if their numbers are, and a variable equals itself
  pub same : is yes [] true
  pub different : is no [] false
  pub itself : is (equal (variable 1) (variable 1)) (3 ∷ 2 ∷ []) true
  pub by_object : is (equal (variable 0) (variable 1)) (2 ∷ 2 ∷ []) true
  -- each connective on each truth value
  pub empty_and : is (and (formulas [])) [] true
  pub and_yes : is (and (formulas (yes ∷ yes ∷ []))) [] true
  pub and_no : is (and (formulas (yes ∷ no ∷ []))) [] false
  pub no_and : is (and (formulas (no ∷ yes ∷ []))) [] false
  pub empty_or : is (or (formulas [])) [] false
  pub or_yes : is (or (formulas (no ∷ yes ∷ []))) [] true
  pub yes_or : is (or (formulas (yes ∷ no ∷ []))) [] true
  pub or_no : is (or (formulas (no ∷ no ∷ []))) [] false
  pub not_yes : is (not yes) [] false
  pub not_no : is (not no) [] true
  pub yes_yes : is (imply yes yes) [] true
  pub yes_no : is (imply yes no) [] false
  pub no_yes : is (imply no yes) [] true
  pub no_no : is (imply no no) [] true
  -- over no objects `exists` is false and `forall` true
  pub some_boat : is (exists boats yes) [] false
  pub all_boats : is (forall boats no) [] true
  -- over the objects of a type, including its subtypes, and over those of several types
  pub a_truck_is_a_vehicle : is (exists vehicles (is_object 0 0)) [] true
  pub a_vehicle_is_no_truck : is (exists trucks (is_object 0 1)) [] false
  pub the_last_of_a_union : is (exists place_or_truck (is_object 0 2)) [] true
  pub none_of_a_union : is (exists place_or_truck (is_object 0 1)) [] false
  pub all_trucks : is (forall trucks (is_object 0 0)) [] true
  pub not_all_vehicles : is (forall vehicles (is_object 0 0)) [] false
  -- an inner variable is the last in scope, and the parameters come first
  pub each_has_its_own : is (forall vehicles (exists (0 ∷ []) (equal (variable 0) (variable 1)))) [] true
  pub one_for_all : is (exists (0 ∷ []) (forall vehicles (equal (variable 0) (variable 1)))) [] false
  pub after_a_parameter : is (exists vehicles (and (formulas (is_object 0 3 ∷ is_object 1 1 ∷ [])))) (3 ∷ []) true
  -- its variable is no longer in scope after a quantifier
  pub left_its_scope : is_formula fleet [] (and (formulas (exists vehicles (is_object 0 0) ∷ is_object 0 0 ∷ []))) ≡ false
  -- up to 16 variables may be in scope
  pub sixteen_variables : is_formula fleet (replicate 15 vehicles) (exists vehicles yes) ≡ true
  pub seventeen_variables : is_formula fleet (replicate 16 vehicles) (exists vehicles yes) ≡ false
  -- the sure literals: those under nothing but `and` and `forall`, and `not` directly before an atom or an equality
  pub said_outright : sure fleet (and (formulas (atom (lifted 0 (variable 0 ∷ [])) ∷ not (atom (lifted 0 (object 1 ∷ []))) ∷ forall vehicles (is_object 1 0) ∷ []))) (2 ∷ [])
      ≡ is_true (ground 0 (2 ∷ [])) ∷ is_false (ground 0 (1 ∷ [])) ∷ are_same 0 0 ∷ are_same 1 0 ∷ []
  pub not_said_outright : sure fleet (and (formulas (or (formulas (yes ∷ [])) ∷ imply yes yes ∷ exists vehicles yes ∷ not (and (formulas (yes ∷ []))) ∷ not (not yes) ∷ not no ∷ []))) []
      ≡ are_different 0 1 ∷ []
