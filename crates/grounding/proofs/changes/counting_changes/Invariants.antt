use Rattle.std.proofs.Common.{◌≡◌, map, take}
use Rattle.grounding_instances.specs.Numbering.{task_in, atoms_in}
use Rattle.grounding_instances.specs.KeptChanges.{effect_of}
use Rattle.grounding.specs.Changes.{effect_in, AreCompiled}
use Rattle.grounding.proofs.changes.counting_changes.Given as goal

-- those so far
abbrev pub invariant-loop-change : goal.invariant-loop-change
invariant-loop-change l = record {
  effects : map effect_in l.found.items ≡ map effect_of (take l.change-index l.changes);
  compiled : AreCompiled (task_in l.numbering) (atoms_in l.numbering) l.found.items;
}
