-- Properties of every ground task: its number of atoms, and that its atoms are numbered once.
use Rattle.std.proofs.Common.{◌≤◌, length, get_or, arith}
use Rattle.std.proofs.lemmas.List.{length-map}
use Rattle.std.proofs.lemmas.List.Elements.{All-contains_itself}
use Rattle.grounding.specs.Views.{atom_of}
use Rattle.grounding.specs.declared.ground.Ground.{Ground}
use Rattle.grounding.specs.Ground.{task_in, atoms_in}
use Rattle.model.proofs.NumberingLemmas.{Contains-occurs_in}
use Rattle.lower_bounds.specs.PotentialLaws.{AreNumberable}

pub few-atoms : (g : Ground) → length (atoms_in g) ≤ 1048576
few-atoms g =
    let few : length g.numbering.atoms.keys ≤ 1048576 = g.numbering.few_atoms in
    omega (arith, length-map g.numbering.atoms.keys atom_of)

pub numberable : (g : Ground) → AreNumberable (task_in g) (atoms_in g)
numberable g = record {
  distinct = g.numbering.distinct;
  fluent = λ k d below. g.numbering.fluent (get_or (atoms_in g) k d) (Contains-occurs_in (atoms_in g) (get_or (atoms_in g) k d) (All-contains_itself (atoms_in g) k d below));
}
