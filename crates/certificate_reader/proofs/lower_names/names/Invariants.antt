-- The bytes are the names so far followed by the rest.
use Rattle.std.proofs.Common.{◌≡◌, map}
use Rattle.std.specs.Prelude.{IsTrue}
use Rattle.std.specs.List.{list_all}
use Rattle.model.specs.PlanWriting.{is_lower_name}
use Rattle.certificate_reader.specs.Lines.{name_of}
use Rattle.certificate_reader.specs.Words.{text_in, then_words}
use Rattle.certificate_reader.proofs.NumbersRead.{bytes_left}
use Rattle.certificate_reader.proofs.lower_names.names.Given as goal

abbrev pub invariant-words : goal.invariant-words
invariant-words l = record {
  read : then_words (map name_of l.names.items) (text_in l.left) ≡ text_in l.fn.rest;
  lower : IsTrue (list_all is_lower_name (map name_of l.names.items));
}

abbrev pub decreases-words : goal.decreases-words
decreases-words l = bytes_left (text_in l.left)
