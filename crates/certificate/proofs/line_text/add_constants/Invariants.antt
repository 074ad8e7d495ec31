use Rattle.std.proofs.Common.{◌≡◌, ◌++◌, map, take}
use Rattle.lower_bounds.specs.PotentialFunctions.{PotentialFunction}
use Rattle.certificate_definitions.specs.CertificateText.{weights_text}
use Rattle.certificate.specs.Evidence.{potential_of}
use Rattle.certificate.proofs.line_text.add_constants.Given as goal

-- the text has the constants so far
abbrev pub invariant-loop-value : goal.invariant-loop-value
invariant-loop-value l =
    l.text.items ≡ l.initial.text.items ++ weights_text (map (λ (p : PotentialFunction). p.constant) (map potential_of (take l.value-index l.evidence.values.items)))
