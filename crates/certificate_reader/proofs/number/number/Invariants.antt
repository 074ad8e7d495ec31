-- The digits so far followed by the remaining ones denote what the whole word does.
use Rattle.std.proofs.Common.{◌≡◌, ◌<◌, drop}
use Rattle.std.specs.Str.Parse.{AllDigits, digits_value, digits_value_after}
use Rattle.certificate_reader.proofs.number.number.Given as goal

abbrev pub invariant-loop-byte : goal.invariant-loop-byte
invariant-loop-byte l = record {
  value : digits_value_after 10 l.number (drop l.byte-index l.word) ≡ digits_value 10 l.word;
  left : AllDigits 10 l.word → AllDigits 10 (drop l.byte-index l.word);
  all : AllDigits 10 (drop l.byte-index l.word) → AllDigits 10 l.word;
  below : l.number < 1152921504606846976;
}
