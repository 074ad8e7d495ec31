-- The worked examples of words and their orders: each computes.
use Rattle.std.proofs.Common.{refl}
use Rattle.clap.proofs.OnLiterals.{clap_on_literals}
use Rattle.std.specs.Prelude.{List, [], ◌∷◌, codes, Some, false}
use Rattle.std.specs.Path.{path_components, path_names}
use Rattle.command_line.specs.Examples.{AreRead, plain, words}
use Rattle.command_line.specs.Orders.{to_check, to_solve}
use Rattle.command_line.proofs.OrderLemmas.{no_command}

pub are_read : AreRead
unfolding clap_on_literals path_components path_names
are_read = record {
  no_option = (refl, refl, refl);
  a_plan = (refl, refl, refl);
  a_certificate = (refl, refl, refl);
  states = (refl, refl, refl);
  instances = (refl, refl, refl);
  seconds = (refl, refl, refl);
  version_2 = (refl, refl, refl);
  version_3 = (refl, refl, refl);
  in_json = (refl, refl, refl);
  progress = (refl, refl, refl);
  in_one_word = (refl, refl, refl);
  around = (refl, refl, refl);
  after_hyphens = (refl, refl, refl);
  one_hyphen = (refl, refl, refl);
  from_input_to_output = (refl, refl, refl);
  a_file_called_so = (refl, refl, refl);
  plus = (refl, refl, refl);
  to_validate = (refl, refl, refl);
  to_check = (refl, refl, refl);
  to_check_with_progress = (refl, refl, refl);
  a_task_to_explain = (refl, refl, refl);
  a_plan_to_explain = (refl, refl, refl);
  a_trace = (refl, refl, refl);
  a_certificate_to_explain = (refl, refl, refl);
  an_explanation_in_json = (refl, refl, refl);
  no_word = refl;
  help = refl;
  version = refl;
  no_problem = refl;
  a_file_too_many = refl;
  an_unknown_option = refl;
  an_option_of_solve = refl;
  no_problem_to_explain = refl;
  a_trace_without_a_plan = λ is. let asks = is.1.1 in absurd (cc);
  the_domain_written_over = no_command (words (codes "--cert" ∷ codes "d" ∷ [])) (to_solve (codes "d") (codes "p") (record plain { cert = Some (codes "d") })) refl refl;
  the_problem_by_another_name = no_command (words (codes "--plan" ∷ codes "./x//../p" ∷ [])) (to_solve (codes "d") (codes "p") (record plain { plan = Some (codes "./x//../p") })) refl refl;
  one_file_for_both = no_command (words (codes "--plan" ∷ codes "x/./y" ∷ codes "--cert" ∷ codes "x//y" ∷ [])) (to_solve (codes "d") (codes "p") (record plain { plan = Some (codes "x/./y"); cert = Some (codes "x//y") })) refl refl;
  two_from_the_input = no_command (codes "solve" ∷ codes "-" ∷ codes "-" ∷ []) (to_solve (codes "-") (codes "-") plain) refl refl;
  a_certificate_and_a_plan_from_it = no_command (codes "check" ∷ codes "d" ∷ codes "p" ∷ codes "-" ∷ codes "--plan" ∷ codes "-" ∷ [])
      (to_check (codes "d") (codes "p") (codes "-") (record { instances = 1000000; plan = Some (codes "-"); json = false; progress = false })) refl refl;
  two_to_the_output = no_command (words (codes "--plan" ∷ codes "-" ∷ codes "--cert" ∷ codes "-" ∷ [])) (to_solve (codes "d") (codes "p") (record plain { plan = Some (codes "-"); cert = Some (codes "-") })) refl refl;
  a_file_called_so_written_over = no_command (codes "solve" ∷ codes "./-" ∷ codes "p" ∷ codes "--cert" ∷ codes "x/../-" ∷ [])
      (to_solve (codes "./-") (codes "p") (record plain { cert = Some (codes "x/../-") })) refl refl;
  a_plan_too_many = refl;
  a_plan_by_an_option = λ is. let asks = is.1.1 in absurd (cc);
  two_plans = λ is. let asks = is.1.1 in absurd (cc);
  a_trace_of_a_certificate = λ is. let asks = is.1.1 in absurd (cc);
  an_option_of_solve_to_explain = refl;
  no_value = refl;
  an_option_for_a_value = refl;
  a_value_for_none = refl;
  progress_of_validate = refl;
  twice = refl;
  none = refl;
  one_too_many = refl;
  no_second = refl;
  one_second_too_many = refl;
  version_1 = refl;
  version_5 = refl;
  no_version_of_check = refl;
  no_number = refl;
}
