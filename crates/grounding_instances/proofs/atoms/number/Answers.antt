use Rattle.std.proofs.Common.{◌≡◌, ◌∙◌, Some, map, sym}
use Rattle.task.specs.TaskParts.{atom_of}
use Rattle.model.specs.NumberedAtoms.{number_of}
use Rattle.grounding_instances.proofs.LaterNumbers.{had-number}
use Rattle.grounding_instances.proofs.atoms.number.Goals as goal

pub add-requires-clause-new : goal.add-requires-clause-new
add-requires-clause-new c = sym c.number_of.ensures ∙ c.in-None.is

pub returns-in-Some-clause-numbered : goal.returns-in-Some-clause-numbered
returns-in-Some-clause-numbered c =
    let is : number_of (map atom_of c.args.atoms.now.keys) (atom_of c.args.atom.now) ≡ Some c.in-Some.number = sym c.number_of.ensures ∙ c.in-Some.is in
    (had-number (map atom_of c.args.atoms.now.keys) (atom_of c.args.atom.now) c.in-Some.number is).0

pub returns-in-Some-clause-number : goal.returns-in-Some-clause-number
returns-in-Some-clause-number c =
    let is : number_of (map atom_of c.args.atoms.now.keys) (atom_of c.args.atom.now) ≡ Some c.in-Some.number = sym c.number_of.ensures ∙ c.in-Some.is in
    (had-number (map atom_of c.args.atoms.now.keys) (atom_of c.args.atom.now) c.in-Some.number is).1
