use Rattle.std.proofs.Common.{◌≡◌, map, take}
use Rattle.task.specs.TaskParts.{object_of}
use Rattle.symmetries.specs.ObjectPairs.{pairs_in}
use Rattle.symmetries_definitions.specs.Exchanges.{objects_in}
use Rattle.cert_checker.proofs.checker.symmetry.exchange_with.Given as goal

-- the objects of the pairs so far
abbrev pub invariant-loop-first : goal.invariant-loop-first
invariant-loop-first l = map object_of l.objects.items ≡ objects_in (pairs_in (take l.first-index l.pairs))
