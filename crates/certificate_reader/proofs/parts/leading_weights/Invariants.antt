-- The bytes are the weights so far followed by the rest.
use Rattle.std.proofs.Common.{◌≡◌, ◌≤◌, length}
use Rattle.std.specs.Prelude.{IsTrue}
use Rattle.std.specs.List.{list_all}
use Rattle.certificate_definitions.specs.Certificates.{is_weight}
use Rattle.certificate_reader.specs.Words.{text_in, then_weights}
use Rattle.certificate_reader.proofs.NumbersRead.{bytes_left}
use Rattle.certificate_reader.proofs.parts.leading_weights.Given as goal

abbrev pub invariant-words : goal.invariant-words
invariant-words l = record {
  read : then_weights l.weights.items (text_in l.left) ≡ text_in l.fn.rest;
  are : IsTrue (list_all is_weight l.weights.items);
  few : length l.weights.items ≤ l.fn.most;
}

abbrev pub decreases-words : goal.decreases-words
decreases-words l = bytes_left (text_in l.left)
