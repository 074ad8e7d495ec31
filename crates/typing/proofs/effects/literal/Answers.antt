use Rattle.std.proofs.Common.{◌≡◌, ap, sym, subst}
use Rattle.typing.specs.Scope.{known_of}
use Rattle.task.specs.TaskParts as parts
use Rattle.pddl_tree.specs.Tree as read
use Rattle.model.specs.Task as task
use Rattle.model.specs.Typing as typing
use Rattle.typing.proofs.effects.literal.Goals as goal

pub returns-in_ok-lifted_atom-in-Add-clause-value : goal.returns-in_ok-lifted_atom-in-Add-clause-value
returns-in_ok-lifted_atom-in-Add-clause-value c =
    subst (λ l. task.add (parts.lifted_atom_of c.in_ok-lifted_atom-in-Add.field-0) ≡ typing.effect_literal_in (known_of c.args.scope.now) (read.effect_literal_of l)) (sym c.in-Add.is)
    (ap task.add c.in_ok-lifted_atom-in-Add.ensures.value)

pub returns-in_ok-lifted_atom-in-Delete-clause-value : goal.returns-in_ok-lifted_atom-in-Delete-clause-value
returns-in_ok-lifted_atom-in-Delete-clause-value c =
    subst (λ l. task.delete (parts.lifted_atom_of c.in_ok-lifted_atom-in-Delete.field-0) ≡ typing.effect_literal_in (known_of c.args.scope.now) (read.effect_literal_of l)) (sym c.in-Delete.is)
    (ap task.delete c.in_ok-lifted_atom-in-Delete.ensures.value)
