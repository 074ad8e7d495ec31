use Rattle.task.specs.Task.{task_of}
use Rattle.formulas.proofs.CarriedOut.{add_few, delete_few}
use Rattle.formulas.proofs.effects.grounded.Goals as goal

pub ground_atom-requires : goal.ground_atom-requires
ground_atom-requires c =
    add_few (task_of c.args._task.now) c.args.literal.now c.in-Add.atom c.args.binding.now.items c.requires c.in-Add.is c.args._task.now.well_typed

pub ground_atom-requires-in-Delete : goal.ground_atom-requires-in-Delete
ground_atom-requires-in-Delete c =
    delete_few (task_of c.args._task.now) c.args.literal.now c.in-Delete.atom c.args.binding.now.items c.requires c.in-Delete.is c.args._task.now.well_typed
