use Rattle.std.proofs.Common.{◌≡◌, map, drop}
use Rattle.typing.specs.Task.{file_of}
use Rattle.typing.specs.Walk.{found, found_by}
use Rattle.pddl_tree.specs.Tree as read
use Rattle.model.specs.Typing as typing
use Rattle.typing.proofs.functions.refuse_increases.Given as goal

abbrev pub invariant-loop-increase : goal.invariant-loop-increase
invariant-loop-increase l =
    found (found_by l.walk) (typing.refused 23 (map (λ i. typing.placed (file_of l.file) (read.name_of i.word)) (drop l.increase-index l.increases)))
    ≡ found (found_by l.initial.walk) (typing.refused 23 (map (λ i. typing.placed (file_of l.file) (read.name_of i.word)) l.increases))
