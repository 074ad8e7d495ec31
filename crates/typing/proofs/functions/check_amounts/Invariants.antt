use Rattle.std.proofs.Common.{◌≡◌, drop}
use Rattle.std.specs.List.{flat_map}
use Rattle.typing.specs.Task.{file_of}
use Rattle.typing.specs.Scope.{known_of}
use Rattle.typing.specs.Walk.{found, found_by}
use Rattle.pddl_tree.specs.Tree as read
use Rattle.model.specs.Typing as typing
use Rattle.typing.proofs.functions.check_amounts.Given as goal

abbrev pub invariant-loop-increase : goal.invariant-loop-increase
invariant-loop-increase l =
    found (found_by l.walk) (flat_map (λ i. typing.amount_faults (file_of l.scope.globals.now.file) (known_of l.scope) (read.amount_of i.amount)) (drop l.increase-index l.increases))
    ≡ found (found_by l.initial.walk) (flat_map (λ i. typing.amount_faults (file_of l.scope.globals.now.file) (known_of l.scope) (read.amount_of i.amount)) l.increases)
