use Rattle.std.proofs.Common.{◌≡◌, [], map, drop}
use Rattle.typing.specs.Walk.{found, found_by}
use Rattle.typing.specs.Scope.{keys_in}
use Rattle.pddl_tree.specs.Tree as read
use Rattle.model.specs.Trees.{domain_file}
use Rattle.model.specs.Typing as typing
use Rattle.typing.proofs.actions.declare_actions.Given as goal

abbrev pub invariant-loop-action : goal.invariant-loop-action
invariant-loop-action l =
    found (found_by l.walk) (typing.refused 16 (typing.repeated_after (keys_in l.names.entries) (map (λ a. typing.placed domain_file (read.name_of a.name)) (drop l.action-index l.actions))))
    ≡ found (found_by l.initial.walk) (typing.refused 16 (typing.repeated_after [] (map (λ a. typing.placed domain_file (read.name_of a.name)) l.actions)))
