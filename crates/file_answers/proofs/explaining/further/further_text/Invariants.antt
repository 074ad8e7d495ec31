use Rattle.std.proofs.Common.{◌≡◌, ◌++◌, codes, take}
use Rattle.std.specs.List.{flat_map}
use Rattle.std.specs.String.{string_bytes}
use Rattle.file_answers.specs.declared.explanation.FurtherFault.{FurtherFault}
use Rattle.file_answers.proofs.explaining.further.further_text.Given as goal

abbrev pub invariant-faults : goal.invariant-faults
invariant-faults l = record {
  stated : string_bytes l.text ≡ flat_map (λ (f : FurtherFault). codes "\n" ++ string_bytes f.text) (take l.fault-index l.further);
}
