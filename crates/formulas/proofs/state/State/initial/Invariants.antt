use Rattle.std.proofs.Common.{◌≡◌, map, take}
use Rattle.std.specs.FinSet.{from_list}
use Rattle.task.specs.TaskParts.{atom_of}
use Rattle.formulas.specs.State.{state_of}
use Rattle.formulas.proofs.state.State.initial.Given as goal

-- the state has the atoms so far
abbrev pub invariant-loop-atom : goal.invariant-loop-atom
invariant-loop-atom l = state_of l.state ≡ from_list (map atom_of (take l.atom-index l.atom-items))
