use Rattle.std.proofs.Common.{◌≡◌, map, drop}
use Rattle.typing.specs.Task.{file_of}
use Rattle.typing.specs.Walk.{found, found_by}
use Rattle.pddl_tree.specs.Tree as read
use Rattle.model.specs.Typing as typing
use Rattle.typing.proofs.statements.check_all_equals.Given as goal

abbrev pub invariant-loop-fact : goal.invariant-loop-fact
invariant-loop-fact l =
    found (found_by l.walk) (typing.refused 23 (drop l.allowed (typing.equals_in (file_of l.file) (map read.fact_of (drop l.fact-index l.facts)))))
    ≡ found (found_by l.initial.walk) (typing.refused 23 (drop 1 (typing.equals_in (file_of l.file) (map read.fact_of l.facts))))
