use Rattle.std.proofs.Common.{◌≡◌, map, take}
use Rattle.std.specs.String.{string_bytes}
use Rattle.printed_answers.specs.ExplanationObjects.{lines_of}
use Rattle.printed_answers.proofs.explanations.further_texts.Given as goal

abbrev pub invariant-faults : goal.invariant-faults
invariant-faults l = record {
  made : map string_bytes l.texts.items ≡ map lines_of (take l.fault-index l.further);
}
