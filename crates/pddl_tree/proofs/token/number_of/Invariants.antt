use Rattle.std.proofs.Common.{◌≡◌, ◌≤◌, map, drop, fold}
use Rattle.std.specs.Char.{to_ascii_lowercase}
use Rattle.std.specs.Str.{str_to_ascii_lowercase}
use Rattle.model.specs.Limits.{max_number}
use Rattle.model.specs.GrammarWords.{number_of_digits}
use Rattle.pddl_tree.proofs.Numbers.{with_digit}
use Rattle.pddl_tree.proofs.token.number_of.Given as goal

abbrev pub invariant-loop-digit : goal.invariant-loop-digit
invariant-loop-digit l = record {
  fits : l.number ≤ max_number;
  same : fold with_digit l.number (map to_ascii_lowercase (drop l.digit-index l.digits)) ≡ number_of_digits (str_to_ascii_lowercase l.digits);
}
