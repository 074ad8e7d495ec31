use Rattle.task.specs.Task.{task_of}
use Rattle.formulas.proofs.Tasks.{atom_few}
use Rattle.formulas.proofs.literals.add_sure_not.Goals as goal

pub ground_atom-requires : goal.ground_atom-requires
ground_atom-requires c =
    atom_few (task_of c.args.task.now) c.args.formula.now c.in-Atom.atom c.args.binding.now.items c.in-Atom.is c.requires c.args.task.now.well_typed
