use Rattle.std.proofs.Common.{◌≡◌, ◌≤◌, true, map, length, take, drop}
use Rattle.std.specs.List.{flat_map}
use Rattle.task.specs.Task.{task_of}
use Rattle.task.specs.TaskParts.{atom_of}
use Rattle.model.specs.NumberedAtoms.{with_atoms, touched_by}
use Rattle.formulas.specs.State.{instance_of}
use Rattle.formulas.specs.declared.instance.Instance.{Instance}
use Rattle.grounding_instances.specs.KeptChanges.{IsEmpty, AreKept}
use Rattle.grounding_instances.proofs.atoms.number_touched.Given as goal

-- the atoms so far, followed by the remaining ones, are all, and the changes so far are kept
abbrev pub invariant-loop-instance : goal.invariant-loop-instance
invariant-loop-instance l = record {
  all : with_atoms (map atom_of l.atoms.keys) (flat_map (λ (i : Instance). touched_by (task_of l.statics.task.now) (instance_of i)) (drop l.instance-index l.instances)) ≡ with_atoms (map atom_of l.fn.atoms.keys) (flat_map (touched_by (task_of l.statics.task.now)) (map instance_of l.instances));
  few : length l.atoms.keys ≤ 1048576;
  keeps : IsEmpty l.fn.kept → l.kept.keeps ≡ true;
  kept : IsEmpty l.fn.kept → AreKept (task_of l.statics.task.now) (map atom_of l.atoms.keys) (map instance_of (take l.instance-index l.instances)) l.kept;
}
