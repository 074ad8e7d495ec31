-- The bytes are the numbers so far followed by the rest, and a continuation of them ascends if the whole list does.
use Rattle.std.proofs.Common.{◌≡◌, ℕ, List, ◌++◌, map}
use Rattle.std.specs.Fmt.{decimal}
use Rattle.certificate_definitions.specs.Certificates.{rise}
use Rattle.certificate_reader.specs.Words.{text_in, then_words}
use Rattle.certificate_reader.proofs.NumbersRead.{bytes_left}
use Rattle.certificate_reader.proofs.parts.leading_numbers.Given as goal

abbrev pub invariant-words : goal.invariant-words
invariant-words l = record {
  read : then_words (map decimal l.numbers.items) (text_in l.left) ≡ text_in l.fn.rest;
  rises : (more : List ℕ) → rise l.fn.atom_count 0 (l.numbers.items ++ more) ≡ rise l.fn.atom_count l.least more;
}

abbrev pub decreases-words : goal.decreases-words
decreases-words l = bytes_left (text_in l.left)
