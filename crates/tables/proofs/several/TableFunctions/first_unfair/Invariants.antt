use Rattle.std.proofs.Common.{◌+◌, ◌*◌}
use Rattle.grounding.specs.Ground.{task_in, atoms_in}
use Rattle.tables.specs.Several.{several_of}
use Rattle.tables.proofs.UnfairLemmas.{IsFirstSoFar}
use Rattle.tables.proofs.several.TableFunctions.first_unfair.Given as goal

abbrev pub invariant-loop-block : goal.invariant-loop-block
invariant-loop-block l = IsFirstSoFar (task_in l.ground) (atoms_in l.ground) (several_of l.self) (512 * l.block) l.first

abbrev pub invariant-loop-index : goal.invariant-loop-index
invariant-loop-index l = IsFirstSoFar (task_in l.ground) (atoms_in l.ground) (several_of l.self) (l.start + l.index) l.first
