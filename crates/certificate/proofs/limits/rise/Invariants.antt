use Rattle.std.proofs.Common.{◌≡◌, drop}
use Rattle.certificate_definitions.specs.Certificates.{rise}
use Rattle.certificate.proofs.limits.rise.Given as goal

-- the remaining numbers decide
abbrev pub invariant-loop-number : goal.invariant-loop-number
invariant-loop-number l = rise l.atom_count 0 l.numbers ≡ rise l.atom_count l.least (drop l.number-index l.numbers)
