-- The worked examples of plan writing: each computes.
use Rattle.std.proofs.Common.{[], ◌∷◌, refl, arith}
use Rattle.std.specs.Fmt.{digits}
use Rattle.model.specs.Examples.{instance}
use Rattle.model.specs.PlanWritingExamples.{hop, AreWritten}
use Rattle.model.proofs.PlanWritingLemmas.{reads_back}

pub are_written : AreWritten
unfolding digits
are_written = record {
  two_steps = refl;
  its_length = refl;
  one_step = refl;
  no_objects = refl;
  no_step = refl;
  reads_back = reads_back hop (instance 0 (0 ∷ 1 ∷ []) ∷ instance 0 (1 ∷ 2 ∷ []) ∷ []) 6 refl refl (omega arith);
  named = refl;
  an_action_as_an_object = refl;
  one_action_twice = refl;
  one_object_twice = refl;
  in_upper_case = refl;
  with_a_digit_first = refl;
  no_name = refl;
  of_255_bytes = refl;
  of_256_bytes = refl;
}
