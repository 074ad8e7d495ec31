-- The worked examples of formulas: each computes.
use Rattle.std.proofs.Common.{refl}
use Rattle.model.specs.FormulaExamples.{AreJudged}

pub are_judged : AreJudged
are_judged = record {
  same = λ state. refl;
  different = λ state. refl;
  itself = λ state. refl;
  by_object = λ state. refl;
  empty_and = λ state. refl;
  and_yes = λ state. refl;
  and_no = λ state. refl;
  no_and = λ state. refl;
  empty_or = λ state. refl;
  or_yes = λ state. refl;
  yes_or = λ state. refl;
  or_no = λ state. refl;
  not_yes = λ state. refl;
  not_no = λ state. refl;
  yes_yes = λ state. refl;
  yes_no = λ state. refl;
  no_yes = λ state. refl;
  no_no = λ state. refl;
  some_boat = λ state. refl;
  all_boats = λ state. refl;
  a_truck_is_a_vehicle = λ state. refl;
  a_vehicle_is_no_truck = λ state. refl;
  the_last_of_a_union = λ state. refl;
  none_of_a_union = λ state. refl;
  all_trucks = λ state. refl;
  not_all_vehicles = λ state. refl;
  each_has_its_own = λ state. refl;
  one_for_all = λ state. refl;
  after_a_parameter = λ state. refl;
  left_its_scope = refl;
  sixteen_variables = refl;
  seventeen_variables = refl;
  said_outright = refl;
  not_said_outright = refl;
}
