use Rattle.std.proofs.Common.{◌≡◌, drop, map}
use Rattle.std.specs.List.{list_all}
use Rattle.certificate_definitions.specs.Certificates.{are_potentials, is_weight}
use Rattle.certificate.specs.Evidence.{potential_of}
use Rattle.certificate.proofs.limits.are_values.Given as goal

-- the remaining values decide
abbrev pub invariant-loop-value : goal.invariant-loop-value
invariant-loop-value l =
    list_all (are_potentials is_weight l.atom_count) (map potential_of l.values) ≡ list_all (are_potentials is_weight l.atom_count) (map potential_of (drop l.value-index l.values))
