use Rattle.std.proofs.Common.{◌∙◌, sym}
use Rattle.task.specs.TaskParts.{atom_of}
use Rattle.packed_state.specs.Packed.{bits_of}
use Rattle.grounding_instances.specs.Numbering.{task_in, atoms_in}
use Rattle.grounding.proofs.PackedTruth.{contains-bit, contains-static}
use Rattle.grounding.proofs.state_view.StateViewValuation.contains.Goals as goal

pub returns-in-Some : goal.returns-in-Some
returns-in-Some c =
    let n = c.args.self.now.numbering.now in
    c.has.ensures
    ∙ sym (contains-bit (task_in n) (atoms_in n) n.distinct n.fluent (bits_of c.args.self.now.state.now) (atom_of c.args.atom.now) c.in-Some.number (sym c.number_of.ensures ∙ c.in-Some.is))

pub returns-in-None : goal.returns-in-None
returns-in-None c =
    let n = c.args.self.now.numbering.now in
    c.is_initial_static.ensures
    ∙ sym (contains-static (task_in n) (atoms_in n) n.distinct n.fluent (bits_of c.args.self.now.state.now) (atom_of c.args.atom.now) (sym c.number_of.ensures ∙ c.in-None.is))
