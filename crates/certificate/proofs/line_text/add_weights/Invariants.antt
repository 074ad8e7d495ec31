use Rattle.std.proofs.Common.{◌≡◌, ◌++◌, take}
use Rattle.certificate_definitions.specs.CertificateText.{weights_text}
use Rattle.certificate.proofs.line_text.add_weights.Given as goal

-- the text has the weights so far
abbrev pub invariant-loop-weight : goal.invariant-loop-weight
invariant-loop-weight l = l.text.items ≡ l.initial.text.items ++ weights_text (take l.weight-index l.weights)
