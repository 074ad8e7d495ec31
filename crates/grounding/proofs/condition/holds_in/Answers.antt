use Rattle.std.proofs.Common.{map}
use Rattle.task.specs.TaskParts.{object_of, formula_of}
use Rattle.packed_state.specs.Packed.{bits_of}
use Rattle.grounding_instances.specs.Numbering.{task_in, atoms_in}
use Rattle.grounding.proofs.Conditions.{literals-below}
use Rattle.grounding.proofs.condition.holds_in.Goals as goal

pub decides-requires : goal.decides-requires
decides-requires c =
    let n = c.args.numbering.now in
    literals-below (task_in n) (atoms_in n) (formula_of c.args.formula.now) (map object_of c.args.binding.now.items) c.args.condition.now c.requires.condition (bits_of c.args.state.now) c.requires.width
