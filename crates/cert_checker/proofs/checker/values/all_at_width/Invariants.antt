use Rattle.std.proofs.Common.{map, take}
use Rattle.certificate.specs.Evidence.{potential_of}
use Rattle.potentials.specs.Potentials.{potentials_of}
use Rattle.cert_checker.specs.Weights.{AreWidened}
use Rattle.cert_checker.proofs.checker.values.all_at_width.Given as goal

-- those so far are widened
abbrev pub invariant-loop-potential : goal.invariant-loop-potential
invariant-loop-potential l = AreWidened (map potential_of (take l.potential-index l.said)) l.width (map potentials_of l.made.items)
