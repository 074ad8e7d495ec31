-- The code's guidance, as the guidance that it is.
use Rattle.certificate.specs.Evidence.{evidence_of, potential_of}
use Rattle.lower_bounds.specs.PotentialFunctions.{PotentialFunction}
use Rattle.certificate_definitions.specs.Certificates.{Version, two, three}
use Rattle.solver.specs.Guidance.{Guidance, by_potentials, by_tables, over_no_tables}
use Rattle.search_spaces.specs.declared.search_space.SearchSpace.{SearchSpace}
use Rattle.search_spaces.specs.declared.search_space.SearchSpace.TheVariants as space
use Rattle.solver.specs.declared.guidance.Guidance as written
use Rattle.solver.specs.declared.guidance.Guidance.TheVariants.{Potentials, Tables}

abbrev pub guidance_of : written.Guidance → Guidance
guidance_of (Potentials value dead_ends) = by_potentials (potential_of value) (potential_of dead_ends)
guidance_of (Tables evidence) = by_tables (evidence_of evidence)

-- potentials, as the certificate of a search in this space has them: version 2 has no exchanges
abbrev pub by_potentials_of : SearchSpace → PotentialFunction → PotentialFunction → Guidance
by_potentials_of (space.Alone g) p dead_ends = by_potentials p dead_ends
by_potentials_of (space.Orbits r) p dead_ends = by_tables (over_no_tables p dead_ends)

-- the version of such a certificate
abbrev pub version_in : SearchSpace → Version
version_in (space.Alone g) = two
version_in (space.Orbits r) = three
