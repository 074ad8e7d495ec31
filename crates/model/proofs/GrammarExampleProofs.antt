-- The worked examples of the grammar: each computes.
use Rattle.std.proofs.Common.{[], ◌∷◌, refl}
use Rattle.std.specs.Prelude.{codes}
use Rattle.model.specs.GrammarWords.{tokens_of}
use Rattle.model.specs.Grammar.{domain_tree, problem_tree}
use Rattle.model.specs.Trees.{domain_file, problem_file, formulas, effects}
use Rattle.model.specs.Trees as tree
use Rattle.model.specs.GrammarExamples.{AreAsReported, empty_list, no_kind, no_predicates, shortest_domain, word_too_many, repeated_section, section_of_the_other_file, section_left_out, no_parameters, full_problem, typed_list, typed_groups, named, type_of_nothing, either_of_a_constant, not_of_two, imply_of_one, bare_variable, three_terms, form_of_an_effect, empty_goal, empty_precondition, domain_with, quantified, quantified_formula, when_under_when, forall_under_when, when_under_not, when_as_condition, and_under_and, left_out_under_when, when_of_two, not_of_a_not, increase_in_and, increase_under_when, increase_in_forall, other_function, bare_function, large_increase, increase_by_the_total_cost, increase_by_a_bare_name, large_term, decreased, total_cost_as_predicate, empty_effect, only_increase, two_increases, effects_among_increases, both_increases, each_when, functions_of_a_reserved_word, total_cost_of_a_variable, functions_of_a_type, maximized, minimized_another, minimized_bare, metric_again, start_of_a_reserved_word, value_of_a_variable, start_too_large, value_too_large, two_functions, functions_and_an_increase, domain_of_functions, costs_in_a_problem, problem_of_costs, values_in_a_problem, problem_of_values, domain_of_effect, each_when_effect}
use Rattle.model.proofs.GrammarMeaning.{run_file}
use Rattle.model.proofs.GrammarRefusals.{refused_at}

pub as_reported : AreAsReported
as_reported = record {
  no_word = refused_at domain_file [] 7 0 refl;
  empty = refused_at domain_file empty_list 10 1 refl;
  unkind = refused_at domain_file no_kind 10 2 refl;
  unpredicated = refused_at domain_file no_predicates 10 6 refl;
  shortest = run_file domain_file (tokens_of shortest_domain) (domain_tree (record { name = record { text = codes "d"; span = record { start = 16; end = 17 } }; types = []; constants = []; predicates = []; functions = []; actions = [] })) refl;
  no_problem = refused_at problem_file shortest_domain 7 3 refl;
  too_many = refused_at domain_file word_too_many 7 10 refl;
  repeated = refused_at domain_file repeated_section 9 10 refl;
  of_the_other_file = refused_at domain_file section_of_the_other_file 8 7 refl;
  left_out = refused_at domain_file section_left_out 12 7 refl;
  unparametrized = refused_at domain_file no_parameters 10 10 refl;
  full = refused_at problem_file full_problem 7 32 refl;
  typed = run_file domain_file (tokens_of typed_list) (domain_tree (record { name = named (codes "d") 16 17; types = typed_groups; constants = []; predicates = []; functions = []; actions = [] })) refl;
  untyped = refused_at domain_file type_of_nothing 7 8 refl;
  one_type = refused_at domain_file either_of_a_constant 12 10 refl;
  negated_two = refused_at problem_file not_of_two 7 13 refl;
  implied_one = refused_at problem_file imply_of_one 7 13 refl;
  unparenthesized = refused_at problem_file bare_variable 7 10 refl;
  equal_three = refused_at problem_file three_terms 7 12 refl;
  when_in_a_goal = refused_at problem_file form_of_an_effect 7 9 refl;
  goal_of_nothing = refused_at problem_file empty_goal 7 9 refl;
  precondition_of_nothing = run_file domain_file (tokens_of empty_precondition) (domain_tree (domain_with (tree.and (formulas [])))) refl;
  when_in_when = refused_at domain_file when_under_when 12 30 refl;
  forall_in_when = refused_at domain_file forall_under_when 12 35 refl;
  when_in_not = refused_at domain_file when_under_not 12 32 refl;
  when_in_a_condition = refused_at domain_file when_as_condition 7 27 refl;
  and_in_and = refused_at domain_file and_under_and 7 32 refl;
  left_out_in_when = refused_at domain_file left_out_under_when 12 30 refl;
  two_under_when = refused_at domain_file when_of_two 7 32 refl;
  not_of_no_atom = refused_at domain_file not_of_a_not 7 27 refl;
  increase_in_an_and = refused_at domain_file increase_in_and 7 36 refl;
  increase_in_when = refused_at domain_file increase_under_when 7 30 refl;
  increase_of_each = refused_at domain_file increase_in_forall 7 29 refl;
  increase_of_another = refused_at domain_file other_function 12 27 refl;
  increase_unparenthesized = refused_at domain_file bare_function 7 26 refl;
  increase_too_large = refused_at domain_file large_increase 13 29 refl;
  increase_by_total_cost = refused_at domain_file increase_by_the_total_cost 7 30 refl;
  increase_by_a_name = refused_at domain_file increase_by_a_bare_name 7 29 refl;
  number_as_a_term = refused_at domain_file large_term 7 26 refl;
  decrease_left_out = refused_at domain_file decreased 12 25 refl;
  no_predicate = refused_at domain_file total_cost_as_predicate 7 25 refl;
  effect_of_nothing = run_file domain_file (tokens_of empty_effect) (domain_tree (domain_of_effect (tree.both (effects [])) ([]))) refl;
  increase_alone = run_file domain_file (tokens_of only_increase) (domain_tree (domain_of_effect (tree.both (effects [])) (record { word = named (codes "increase") 96 104; amount = tree.by_number 2147483647 } ∷ []))) refl;
  increases_among_effects = run_file domain_file (tokens_of two_increases) (domain_tree (domain_of_effect effects_among_increases both_increases)) refl;
  when_of_each = run_file domain_file (tokens_of each_when) (domain_tree (domain_of_effect (each_when_effect) ([]))) refl;
  reserved_function = refused_at domain_file functions_of_a_reserved_word 7 9 refl;
  total_cost_of_objects = refused_at domain_file total_cost_of_a_variable 7 10 refl;
  another_number_type = refused_at domain_file functions_of_a_type 7 12 refl;
  maximize_left_out = refused_at problem_file maximized 12 8 refl;
  minimize_another = refused_at problem_file minimized_another 12 10 refl;
  minimize_no_function = refused_at problem_file minimized_bare 7 9 refl;
  repeated_metric = refused_at problem_file metric_again 9 14 refl;
  reserved_start = refused_at problem_file start_of_a_reserved_word 7 11 refl;
  value_of_no_object = refused_at problem_file value_of_a_variable 7 13 refl;
  start_over_the_greatest = refused_at problem_file start_too_large 13 13 refl;
  value_over_the_greatest = refused_at problem_file value_too_large 13 15 refl;
  functions_declared = run_file domain_file (tokens_of two_functions) (domain_tree (record { name = named (codes "d") 16 17; types = []; constants = []; predicates = []; functions = record { name = named (codes "total-cost") 30 40; parameters = [] } ∷ record { name = named (codes "total-cost") 42 52; parameters = [] } ∷ []; actions = [] })) refl;
  functions_with_variables = run_file domain_file (tokens_of functions_and_an_increase) (domain_tree domain_of_functions) refl;
  problem_with_costs = run_file problem_file (tokens_of costs_in_a_problem) (problem_tree problem_of_costs) refl;
  problem_with_values = run_file problem_file (tokens_of values_in_a_problem) (problem_tree problem_of_values) refl;
  formula_of_all = run_file domain_file (tokens_of quantified) (domain_tree (domain_with quantified_formula)) refl;
}
