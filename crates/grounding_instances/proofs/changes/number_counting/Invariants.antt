use Rattle.std.proofs.Common.{◌≡◌, ◌≤◌, map, length, take, drop}
use Rattle.std.specs.Prelude.{filter}
use Rattle.std.specs.List.{flat_map}
use Rattle.task.specs.Task.{task_of}
use Rattle.task.specs.TaskParts.{atom_of}
use Rattle.model.specs.NumberedAtoms.{with_atoms}
use Rattle.model.specs.StaticallyFalse.{counts}
use Rattle.formulas.specs.Effects.{change_of}
use Rattle.grounding_instances.specs.Atoms.{atoms_changed}
use Rattle.grounding_instances.specs.KeptChanges.{AddsEffects}
use Rattle.grounding_instances.proofs.NumberLists.{if_counting}
use Rattle.grounding_instances.proofs.changes.number_counting.Given as goal

-- the atoms so far, followed by the remaining ones, are all, and the counting ones of the changes so far were added
abbrev pub invariant-loop-change : goal.invariant-loop-change
invariant-loop-change l = record {
  all : with_atoms (map atom_of l.atoms.keys) (flat_map (if_counting (task_of l.statics.task.now)) (drop l.change-index l.changes)) ≡ with_atoms (map atom_of l.fn.atoms.keys) (atoms_changed (filter (counts (task_of l.statics.task.now)) (map change_of l.changes)));
  few : length l.atoms.keys ≤ 1048576;
  found : AddsEffects (task_of l.statics.task.now) (map atom_of l.atoms.keys) (map change_of (take l.change-index l.changes)) l.fn.found.items l.found.items;
}
