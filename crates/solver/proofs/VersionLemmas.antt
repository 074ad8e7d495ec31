-- The versions of certificates that searches make.
use Rattle.std.proofs.Common.{◌≡◌, ◌≤◌, refl, arith}
use Rattle.lower_bounds.specs.PotentialFunctions.{PotentialFunction}
use Rattle.search_spaces.specs.declared.search_space.SearchSpace.{SearchSpace}
use Rattle.search_spaces.specs.declared.search_space.SearchSpace.TheVariants as space
use Rattle.solver.specs.Guidance.{version_by}
use Rattle.solver.specs.Versions.{number_of}
use Rattle.solver.specs.Written.{by_potentials_of, version_in}
use Rattle.solver.specs.declared.max_version.MaxVersion.{MaxVersion}
use Rattle.solver.specs.declared.max_version.MaxVersion.TheVariants.{Two, Three, Four}

-- each allows version 2
pub at_least_two : (version : MaxVersion) → 2 ≤ number_of version
at_least_two Two = omega arith
at_least_two Three = omega arith
at_least_two Four = omega arith

-- that of a search by potentials
pub version_by-potentials : (s : SearchSpace) (p dead_ends : PotentialFunction) → version_by (by_potentials_of s p dead_ends) ≡ version_in s
version_by-potentials (space.Alone g) p dead_ends = refl
version_by-potentials (space.Orbits r) p dead_ends = refl
