-- The code's representatives, in the terms of the definitions.
use Rattle.std.specs.Prelude.{ℕ, List, map}
use Rattle.grounding.specs.Ground.{task_in, atoms_in}
use Rattle.grounding.specs.declared.ground.Ground.{Ground}
use Rattle.symmetries.specs.Exchange.{exchange_of}
use Rattle.model.specs.Task.{Task, Atom}
use Rattle.symmetries_definitions.specs.Exchanges.{Exchange}
use Rattle.symmetries.specs.declared.representatives.Representatives.{Representatives}
use Rattle.symmetries.specs.Runs.{swaps_in_runs}

abbrev pub ground_of : Representatives → Ground
ground_of r = r.ground.now

abbrev pub task_of : Representatives → Task
task_of r = task_in r.ground.now

-- by their numbers
abbrev pub atoms_of : Representatives → List Atom
atoms_of r = atoms_in r.ground.now

abbrev pub exchanges_of : Representatives → List Exchange
exchanges_of r = map exchange_of r.exchanges.now

-- what they do to the numbers of atoms
abbrev pub swaps_of : Representatives → List (List (ℕ × ℕ))
swaps_of r = swaps_in_runs r.swaps.items
