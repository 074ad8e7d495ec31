use Rattle.std.proofs.Common.{◌≡◌, ◌≤◌, length, map, drop}
use Rattle.std.specs.List.{flat_map}
use Rattle.grounding_instances.specs.Numbering.{task_in, atoms_in, instances_in}
use Rattle.grounding_instances.specs.KeptChanges.{effect_of}
use Rattle.grounding.specs.Changes.{AreChangesOf}
use Rattle.grounding.specs.NumberedEffects.{effects_of_instance}
use Rattle.grounding.proofs.InPlaceLemmas.{AreSoFar}
use Rattle.grounding.proofs.parts.changes_of_all.Given as goal

-- those of the instances so far, and what is left is of the others
abbrev pub invariant-loop-count : goal.invariant-loop-count
invariant-loop-count l = record {
  within : l.begin ≤ length l.all;
  left : map effect_of (drop l.begin l.all) ≡ flat_map (effects_of_instance (task_in l.numbering) (atoms_in l.numbering)) (drop l.count-index (instances_in l.numbering));
  found : AreSoFar (AreChangesOf (task_in l.numbering) (atoms_in l.numbering)) (instances_in l.numbering) l.found.items l.count-index;
}
