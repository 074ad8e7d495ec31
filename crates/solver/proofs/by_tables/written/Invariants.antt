use Rattle.std.proofs.Common.{◌≡◌, map, take}
use Rattle.certificate.specs.Evidence.{potential_of}
use Rattle.potentials.specs.Potentials.{potentials_of}
use Rattle.solver.proofs.by_tables.written.Given as goal

abbrev pub invariant-loop-value : goal.invariant-loop-value
invariant-loop-value l = map potential_of l.written.items ≡ map potentials_of (take l.value-index l.values)
