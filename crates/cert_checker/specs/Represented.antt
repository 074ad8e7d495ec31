-- Representatives for a ground task, as the code keeps them.
use Rattle.std.specs.Prelude.{◌≡◌, Bool, List, length}
use Rattle.model.specs.Task.{Atom, Task}
use Rattle.symmetries_definitions.specs.Exchanges.{Exchange}
use Rattle.symmetries_definitions.specs.Orbits.{packed_representative}
use Rattle.symmetries.specs.declared.representatives.Representatives.{Representatives}
use Rattle.symmetries.specs.Representatives.{task_of, atoms_of, exchanges_of}

-- the representatives by these exchanges, in the ground task that numbers these atoms
pub record Represents (task : Task) (atoms : List Atom) (exchanges : List Exchange) (r : Representatives) : Type 0 where
  pub width : length (atoms_of r) ≡ length atoms
  pub same : (bits : List Bool) → packed_representative (task_of r) (atoms_of r) (exchanges_of r) bits ≡ packed_representative task atoms exchanges bits
