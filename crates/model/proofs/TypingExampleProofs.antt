-- The worked examples of typing: each computes.
use Rattle.std.proofs.Common.{◌≡◌, zero, suc, Bool, true, false, not, ◌&&◌, ◌||◌, List, [], ◌∷◌, refl, sym, subst, ◌∙◌, arith}
use Rattle.std.specs.Prelude.{All, Contains}
use Rattle.std.specs.List.{list_all}
use Rattle.std.proofs.lemmas.Bool.{and_parts}
use Rattle.model.specs.Meaning.{holds}
use Rattle.model.specs.Trees.{Domain, Problem}
use Rattle.model.specs.Typing.{TypingFault, is_before, faults_of}
use Rattle.model.specs.TypingExamples.{fleet_task, HasFaults, AreTyped}
use Rattle.model.proofs.ListLemmas.{Contains-here}

or_false : (b : Bool) → (b || false) ≡ b
or_false true = refl
or_false false = refl

and_true : (b : Bool) → (b && true) ≡ b
and_true true = refl
and_true false = refl

-- ---- the least of some faults

-- no fault of these is before this one
none_before : (first : TypingFault) (faults : List TypingFault) → list_all (λ g. not (is_before g first)) faults ≡ true → All (λ g. is_before g first ≡ false) faults
none_before first [] passes k g below = absurd (omega (arith, below))
none_before first (x ∷ rest) passes zero g below = by (is_before x first) (and_parts (not (is_before x first)) _ passes).0
  where
    by : (b : Bool) → not b ≡ true → b ≡ false
    by true passes = absurd (cc)
    by false passes = refl
none_before first (x ∷ rest) passes (suc k) g below = none_before first rest (and_parts (not (is_before x first)) _ passes).1 k g (omega (arith, below))

refused : {d : Domain} {p : Problem} {first : TypingFault} {others : List TypingFault} → faults_of d p ≡ first ∷ others → list_all (λ g. not (is_before g first)) (first ∷ others) ≡ true
    → HasFaults d p first others
refused {first = first} {others = others} is least = record {
  reported = record {
    is_fault = subst (λ l. Contains l first) (sym is) (Contains-here first others);
    is_least = subst (All (λ g. is_before g first ≡ false)) (sym is) (none_before first (first ∷ others) least);
  };
  are_listed = is;
}

pub are_typed : AreTyped
are_typed = record {
  no_fault = refl;
  its_task = refl;
  type_again = refused refl refl;
  unknown_parent = refused refl refl;
  cycle = refused refl refl;
  own_parent = refused refl refl;
  object_again = refused refl refl;
  supertype = refused refl refl;
  one_of_two = refused refl refl;
  both_fit = refl;
  unknown_type = refused refl refl;
  object_in_action = refused refl refl;
  wrong_fact = refused refl refl;
  other_domain = refused refl refl;
  quantified = refl;
  exists_of_none = refl;
  forall_of_none = refl;
  some_hold = λ part binding state. or_false (holds fleet_task part binding state);
  all_hold = λ part binding state. and_true (holds fleet_task part binding state);
  exists_says_nothing = refl;
  not_forall_says_nothing = refl;
  forall_says = refl;
  under_forall = refl;
  under_and = refl;
  in_scope = refl;
  of_the_root = refused refl refl;
  out_of_scope = refused refl refl;
  of_unknown_type = refused refl refl;
  twice_in_a_list = refused refl refl;
  as_a_parameter = refused refl refl;
  as_one_around = refused refl refl;
  as_one_before = refl;
  sixteen = refl;
  seventeen = refused refl refl;
  of_two_types = refl;
  unknown_terms = refused refl refl;
  in_its_part = refl;
  of_another_type = refused refl refl;
  after_its_part = refused refl refl;
  of_a_type_unknown = refused refl refl;
  twice_in_its_list = refused refl refl;
  as_the_parameter = refused refl refl;
  in_one_another = refused refl refl;
  one_too_many = refused refl refl;
  under_a_condition = refused refl refl;
  cost_declared_again = refused refl refl;
  metric_of_nothing = refused refl refl;
  metric_of_the_cost = refl;
  before_the_actions = refused refl refl;
  increase_of_nothing = refused refl refl;
  increases_again = refused refl refl;
  starts_at_nothing = refl;
  starts_at_one = refused refl refl;
  starts_again = refused refl refl;
  start_of_nothing = refused refl refl;
  start_of_nothing_at_one = refused refl refl;
  its_effect = refl;
  without_fault = refl;
  its_cost = refl;
  has_its_metric = refl;
  has_no_metric = refl;
  function_again = refused refl refl;
  function_of_an_unknown_type = refused refl refl;
  eight_arguments = refl;
  nine_arguments = refused refl refl;
  named_alike = refl;
  by_a_length = refl;
  by_an_unknown = refused refl refl;
  by_another_count = refused refl refl;
  by_another_type = refused refl refl;
  by_unknown_terms = refused refl refl;
  by_a_length_alone = refused refl refl;
  by_a_second = refused refl refl;
  as_a_predicate = refused refl refl;
  values_given = refl;
  value_of_nothing = refused refl refl;
  value_of_a_predicate = refused refl refl;
  value_of_another_count = refused refl refl;
  value_of_another_type = refused refl refl;
  value_of_an_unknown = refused refl refl;
  given_again = refl;
  given_another = refused refl refl;
  given_to_an_unknown = refused refl refl;
  its_functions = refl;
  its_values = refl;
  its_increase = refl;
}
