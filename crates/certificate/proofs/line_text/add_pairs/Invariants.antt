use Rattle.std.proofs.Common.{◌≡◌, ◌++◌, take}
use Rattle.std.specs.List.{flat_map}
use Rattle.task.specs.Task.{task_of}
use Rattle.model.specs.PlanWriting.{object_text}
use Rattle.symmetries_definitions.specs.Exchanges.{objects_in}
use Rattle.symmetries.specs.ObjectPairs.{pairs_in}
use Rattle.certificate.proofs.line_text.add_pairs.Given as goal

-- the text has the names of the pairs so far
abbrev pub invariant-loop-pair : goal.invariant-loop-pair
invariant-loop-pair l =
    l.text.items ≡ l.initial.text.items ++ flat_map (object_text (task_of l.task)) (objects_in (pairs_in (take l.pair-index l.pairs)))
