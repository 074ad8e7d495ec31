-- The versions that an answer's certificate may have.
use Rattle.std.specs.Prelude.{ℕ}
use Rattle.solver.specs.declared.max_version.MaxVersion.{MaxVersion}
use Rattle.solver.specs.declared.max_version.MaxVersion.TheVariants.{Two, Three, Four}

abbrev pub number_of : MaxVersion → ℕ
number_of Two = 2
number_of Three = 3
number_of Four = 4
