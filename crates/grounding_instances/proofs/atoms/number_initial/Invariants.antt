use Rattle.std.proofs.Common.{◌≡◌, ◌≤◌, map, length, drop}
use Rattle.std.specs.List.{flat_map}
use Rattle.task.specs.Task.{task_of}
use Rattle.task.specs.TaskParts.{atom_of}
use Rattle.model.specs.NumberedAtoms.{with_atoms, initial_fluent_atoms}
use Rattle.grounding_instances.proofs.NumberLists.{if_fluent}
use Rattle.grounding_instances.proofs.atoms.number_initial.Given as goal

-- the atoms so far, followed by the remaining ones, are all
abbrev pub invariant-loop-atom : goal.invariant-loop-atom
invariant-loop-atom l = record {
  all : with_atoms (map atom_of l.atoms.keys) (flat_map (if_fluent (task_of l.statics.task.now)) (drop l.atom-index l.atom-items)) ≡ with_atoms (map atom_of l.fn.atoms.keys) (initial_fluent_atoms (task_of l.statics.task.now));
  few : length l.atoms.keys ≤ 1048576;
}
