use Rattle.std.proofs.Common.{◌≡◌, ◌∙◌, ap, sym, subst}
use Rattle.typing.specs.Scope.{known_of}
use Rattle.task.specs.TaskParts as parts
use Rattle.pddl_tree.specs.Tree as read
use Rattle.model.specs.Task as task
use Rattle.model.specs.Typing as typing
use Rattle.typing.proofs.functions.amount.Goals as goal

pub returns-in_ok-lifted_atom-in-Function-clause-value : goal.returns-in_ok-lifted_atom-in-Function-clause-value
returns-in_ok-lifted_atom-in-Function-clause-value c =
    let known = known_of c.args.scope.now in
    subst (λ a. task.by_function (parts.lifted_atom_of c.in_ok-lifted_atom-in-Function.field-0) ≡ typing.increase_in known (read.amount_of a)) (sym c.in-Function.is)
    (ap task.by_function (c.in_ok-lifted_atom-in-Function.ensures.value
    ∙ ap (λ k. typing.lifted_atom_in k (read.atom_of c.in-Function.function)) c.in_function-functions.ensures.known))
