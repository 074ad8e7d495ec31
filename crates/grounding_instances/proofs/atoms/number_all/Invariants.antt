use Rattle.std.proofs.Common.{◌≡◌, ◌≤◌, [], ◌∷◌, map, length, drop}
use Rattle.std.specs.List.{flat_map}
use Rattle.task.specs.declared.atoms.Atom.{Atom}
use Rattle.task.specs.TaskParts.{atom_of}
use Rattle.model.specs.NumberedAtoms.{with_atoms}
use Rattle.grounding_instances.proofs.atoms.number_all.Given as goal

-- the atoms so far, followed by the remaining ones, are all
abbrev pub invariant-loop-atom : goal.invariant-loop-atom
invariant-loop-atom l = record {
  all : with_atoms (map atom_of l.atoms.keys) (flat_map (λ (a : Atom). atom_of a ∷ []) (drop l.atom-index l.list)) ≡ with_atoms (map atom_of l.fn.atoms.keys) (map atom_of l.list);
  few : length l.atoms.keys ≤ 1048576;
}
