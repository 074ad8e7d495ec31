use Rattle.std.proofs.Common.{◌≡◌, ◌++◌, get_or, map, take}
use Rattle.std.specs.Prelude.{pos}
use Rattle.lower_bounds.specs.PotentialFunctions.{PotentialFunction}
use Rattle.certificate_definitions.specs.CertificateText.{weights_text}
use Rattle.certificate.specs.Evidence.{potential_of}
use Rattle.certificate.proofs.line_text.add_weights_at.Given as goal

-- the text has the weights so far
abbrev pub invariant-loop-value : goal.invariant-loop-value
invariant-loop-value l =
    l.text.items ≡ l.initial.text.items ++ weights_text (map (λ (p : PotentialFunction). get_or p.weights l.place (pos 0)) (map potential_of (take l.value-index l.evidence.values.items)))
