-- Worked examples of words and their orders, each chosen to expose a wrong reading.
use Rattle.std.specs.Prelude.{◌≡◌, true, false, List, [], ◌∷◌, ◌++◌, codes, None, Some}
use Rattle.clap.specs.Kinds.{Kinds}
use Rattle.clap.specs.Faults.{fault_of}
use Rattle.clap.specs.Walk.{Text}
use Rattle.clap.specs.declared.error.kind.ErrorKind.TheVariants.{ArgumentConflict, DisplayHelp, DisplayHelpOnMissingArgumentOrSubcommand, DisplayVersion, InvalidValue, MissingRequiredArgument, TooManyValues, UnknownArgument, ValueValidation}
use Rattle.command_line.specs.Description.{optplan}
use Rattle.command_line.specs.Orders.{Asks, Asked, IsCommand, to_solve, to_validate, to_check, to_explain, to_explain_cert}

-- `solve d p`, with these words before, between and after the two names
abbrev pub solve_words : (first second third : List Text) → List Text
solve_words first second third = codes "solve" ∷ (first ++ (codes "d" ∷ (second ++ (codes "p" ∷ third))))

abbrev pub words : List Text → List Text
words options = solve_words [] [] options

-- no options
abbrev pub plain : Asked
plain = record { states = 1000000; instances = 1000000; seconds = None; cert_version = 4; plan = None; cert = None; json = false; progress = false }

-- the words ask for a plan for d and p, with these options
abbrev pub AskToSolve : List Text → Asked → Type 0
AskToSolve words asked = Asks words (to_solve (codes "d") (codes "p") asked)

-- the words are refused, for this reason
abbrev pub AreRefused : List Text → Kinds → Type 0
AreRefused words kinds = fault_of optplan words ≡ kinds

pub record AreRead : Type 0 where
  pub no_option : AskToSolve (words []) plain
  pub a_plan : AskToSolve (words (codes "--plan" ∷ codes "x" ∷ [])) (record plain { plan = Some (codes "x") })
  pub a_certificate : AskToSolve (words (codes "--cert" ∷ codes "x" ∷ [])) (record plain { cert = Some (codes "x") })
  pub states : AskToSolve (words (codes "--states" ∷ codes "5" ∷ [])) (record plain { states = 5 })
  pub instances : AskToSolve (words (codes "--instances" ∷ codes "5" ∷ [])) (record plain { instances = 5 })
  pub seconds : AskToSolve (words (codes "--seconds" ∷ codes "1000000" ∷ [])) (record plain { seconds = Some 1000000 })
  pub version_2 : AskToSolve (words (codes "--cert-version" ∷ codes "2" ∷ [])) (record plain { cert_version = 2 })
  pub version_3 : AskToSolve (words (codes "--cert-version=3" ∷ [])) (record plain { cert_version = 3 })
  pub in_json : AskToSolve (words (codes "--json" ∷ [])) (record plain { json = true })
  pub progress : AskToSolve (words (codes "--progress" ∷ [])) (record plain { progress = true })
  -- a value may be part of the option's word, and may then begin with a hyphen
  pub in_one_word : AskToSolve (words (codes "--states=5" ∷ codes "--plan=-x=y" ∷ [])) (record plain { states = 5; plan = Some (codes "-x=y") })
  -- options come before, between and after the files
  pub around : AskToSolve (solve_words (codes "--json" ∷ []) (codes "--plan" ∷ codes "x" ∷ []) (codes "--states" ∷ codes "5" ∷ []))
      (record plain { states = 5; plan = Some (codes "x"); json = true })
  -- a word after two hyphens is a file name, and a single hyphen is one
  pub after_hyphens : Asks (codes "solve" ∷ codes "--json" ∷ codes "--" ∷ codes "-d" ∷ codes "--states" ∷ [])
      (to_solve (codes "-d") (codes "--states") (record plain { json = true }))
  pub one_hyphen : Asks (codes "solve" ∷ codes "-" ∷ codes "p" ∷ []) (to_solve (codes "-") (codes "p") plain)
  -- the standard input and output are two, and a file of the same name is another one
  pub from_input_to_output : Asks (codes "solve" ∷ codes "-" ∷ codes "p" ∷ codes "--plan" ∷ codes "-" ∷ [])
      (to_solve (codes "-") (codes "p") (record plain { plan = Some (codes "-") }))
  pub a_file_called_so : Asks (codes "solve" ∷ codes "-" ∷ codes "./-" ∷ codes "--plan" ∷ codes "-" ∷ codes "--cert" ∷ codes ".//--" ∷ [])
      (to_solve (codes "-") (codes "./-") (record plain { plan = Some (codes "-"); cert = Some (codes ".//--") }))
  -- a plus and zeros may come before the digits
  pub plus : AskToSolve (words (codes "--states" ∷ codes "+016777216" ∷ [])) (record plain { states = 16777216 })
  pub to_validate : Asks (codes "validate" ∷ codes "d" ∷ codes "p" ∷ codes "l" ∷ codes "--json" ∷ []) (to_validate (codes "d") (codes "p") (codes "l") true)
  pub to_check_with_progress : Asks (codes "check" ∷ codes "--progress" ∷ codes "d" ∷ codes "p" ∷ codes "c" ∷ [])
      (to_check (codes "d") (codes "p") (codes "c") (record { instances = 1000000; plan = None; json = false; progress = true }))
  pub to_check : Asks (codes "check" ∷ codes "d" ∷ codes "p" ∷ codes "c" ∷ codes "--plan" ∷ codes "l" ∷ codes "--instances=7" ∷ [])
      (to_check (codes "d") (codes "p") (codes "c") (record { instances = 7; plan = Some (codes "l"); json = false; progress = false }))
  pub a_task_to_explain : Asks (codes "explain" ∷ codes "d" ∷ codes "p" ∷ []) (to_explain (codes "d") (codes "p") (record { instances = 1000000; plan = None; trace = false; json = false }))
  pub a_plan_to_explain : Asks (codes "explain" ∷ codes "d" ∷ codes "--instances" ∷ codes "7" ∷ codes "p" ∷ codes "l" ∷ [])
      (to_explain (codes "d") (codes "p") (record { instances = 7; plan = Some (codes "l"); trace = false; json = false }))
  pub a_trace : Asks (codes "explain" ∷ codes "d" ∷ codes "p" ∷ codes "--trace" ∷ codes "l" ∷ [])
      (to_explain (codes "d") (codes "p") (record { instances = 1000000; plan = Some (codes "l"); trace = true; json = false }))
  pub a_certificate_to_explain : Asks (codes "explain" ∷ codes "d" ∷ codes "p" ∷ codes "--cert" ∷ codes "c" ∷ codes "--plan=l" ∷ codes "--json" ∷ [])
      (to_explain_cert (codes "d") (codes "p") (codes "c") (record { instances = 1000000; plan = Some (codes "l"); json = true }))
  pub an_explanation_in_json : Asks (codes "explain" ∷ codes "--json" ∷ codes "d" ∷ codes "p" ∷ [])
      (to_explain (codes "d") (codes "p") (record { instances = 1000000; plan = None; trace = false; json = true }))
  -- refusals
  pub no_word : AreRefused [] (DisplayHelpOnMissingArgumentOrSubcommand ∷ [])
  pub help : AreRefused (words (codes "--help" ∷ [])) (DisplayHelp ∷ [])
  pub version : AreRefused (codes "-V" ∷ []) (DisplayVersion ∷ [])
  pub no_problem : AreRefused (codes "solve" ∷ codes "d" ∷ []) (MissingRequiredArgument ∷ [])
  pub a_file_too_many : AreRefused (words (codes "l" ∷ [])) (UnknownArgument ∷ [])
  pub an_unknown_option : AreRefused (words (codes "--twice" ∷ [])) (UnknownArgument ∷ [])
  pub an_option_of_solve : AreRefused (codes "validate" ∷ codes "d" ∷ codes "p" ∷ codes "l" ∷ codes "--states" ∷ codes "5" ∷ []) (UnknownArgument ∷ [])
  pub no_problem_to_explain : AreRefused (codes "explain" ∷ codes "d" ∷ []) (MissingRequiredArgument ∷ [])
  pub a_trace_without_a_plan : IsCommand (codes "explain" ∷ codes "d" ∷ codes "p" ∷ codes "--trace" ∷ []) → ⊥
  pub the_domain_written_over : IsCommand (words (codes "--cert" ∷ codes "d" ∷ [])) → ⊥
  pub the_problem_by_another_name : IsCommand (words (codes "--plan" ∷ codes "./x//../p" ∷ [])) → ⊥
  pub one_file_for_both : IsCommand (words (codes "--plan" ∷ codes "x/./y" ∷ codes "--cert" ∷ codes "x//y" ∷ [])) → ⊥
  pub two_from_the_input : IsCommand (codes "solve" ∷ codes "-" ∷ codes "-" ∷ []) → ⊥
  pub a_certificate_and_a_plan_from_it : IsCommand (codes "check" ∷ codes "d" ∷ codes "p" ∷ codes "-" ∷ codes "--plan" ∷ codes "-" ∷ []) → ⊥
  pub two_to_the_output : IsCommand (words (codes "--plan" ∷ codes "-" ∷ codes "--cert" ∷ codes "-" ∷ [])) → ⊥
  pub a_file_called_so_written_over : IsCommand (codes "solve" ∷ codes "./-" ∷ codes "p" ∷ codes "--cert" ∷ codes "x/../-" ∷ []) → ⊥
  pub a_plan_too_many : AreRefused (codes "explain" ∷ codes "d" ∷ codes "p" ∷ codes "l" ∷ codes "l" ∷ []) (UnknownArgument ∷ [])
  pub a_plan_by_an_option : IsCommand (codes "explain" ∷ codes "d" ∷ codes "p" ∷ codes "--plan" ∷ codes "l" ∷ []) → ⊥
  pub two_plans : IsCommand (codes "explain" ∷ codes "d" ∷ codes "p" ∷ codes "l" ∷ codes "--cert" ∷ codes "c" ∷ []) → ⊥
  pub a_trace_of_a_certificate : IsCommand (codes "explain" ∷ codes "d" ∷ codes "p" ∷ codes "--trace" ∷ codes "--cert" ∷ codes "c" ∷ []) → ⊥
  pub an_option_of_solve_to_explain : AreRefused (codes "explain" ∷ codes "d" ∷ codes "p" ∷ codes "--states" ∷ codes "5" ∷ []) (UnknownArgument ∷ [])
  pub no_value : AreRefused (words (codes "--plan" ∷ [])) (InvalidValue ∷ [])
  pub an_option_for_a_value : AreRefused (words (codes "--plan" ∷ codes "--json" ∷ [])) (InvalidValue ∷ [])
  pub a_value_for_none : AreRefused (words (codes "--json=true" ∷ [])) (TooManyValues ∷ [])
  pub progress_of_validate : AreRefused (codes "validate" ∷ codes "d" ∷ codes "p" ∷ codes "l" ∷ codes "--progress" ∷ []) (UnknownArgument ∷ [])
  pub twice : AreRefused (words (codes "--plan" ∷ codes "x" ∷ codes "--plan=x" ∷ [])) (ArgumentConflict ∷ [])
  pub none : AreRefused (words (codes "--states" ∷ codes "0" ∷ [])) (ValueValidation ∷ [])
  pub one_too_many : AreRefused (words (codes "--instances=16777217" ∷ [])) (ValueValidation ∷ [])
  pub no_second : AreRefused (words (codes "--seconds" ∷ codes "0" ∷ [])) (ValueValidation ∷ [])
  pub one_second_too_many : AreRefused (words (codes "--seconds=1000001" ∷ [])) (ValueValidation ∷ [])
  pub version_1 : AreRefused (words (codes "--cert-version" ∷ codes "1" ∷ [])) (ValueValidation ∷ [])
  pub version_5 : AreRefused (words (codes "--cert-version=5" ∷ [])) (ValueValidation ∷ [])
  pub no_version_of_check : AreRefused (codes "check" ∷ codes "d" ∷ codes "p" ∷ codes "c" ∷ codes "--cert-version" ∷ codes "2" ∷ []) (UnknownArgument ∷ [])
  pub no_number : AreRefused (words (codes "--states" ∷ codes "many" ∷ [])) (ValueValidation ∷ [])
