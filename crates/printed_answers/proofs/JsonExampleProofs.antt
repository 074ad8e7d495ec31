-- The worked examples of the text of objects: each computes.
use Rattle.std.proofs.Common.{refl}
use Rattle.std.specs.Fmt.{digits}
use Rattle.printed_answers.specs.JsonExamples.{AreWritten}

pub are_written : AreWritten
unfolding digits
are_written = record {
  no_member = refl;
  one_number = refl;
  two_members = refl;
  no_text = refl;
  two_texts = refl;
  a_number_and_its_text = refl;
  escaped = refl;
  as_they_are = refl;
  in_order = refl;
  not_in_order = refl;
  one_key_twice = refl;
}
