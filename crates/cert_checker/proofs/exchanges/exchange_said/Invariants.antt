use Rattle.std.proofs.Common.{◌≡◌, length, map, ◌++◌}
use Rattle.task.specs.Task.{task_of}
use Rattle.symmetries.specs.ObjectPairs.{pairs_in}
use Rattle.certificate_reader.specs.Lines.{name_of}
use Rattle.certificate_definitions.specs.CertificateNames.{exchange_said}
use Rattle.cert_checker.proofs.exchanges.exchange_said.Given as goal

-- the pairs so far, followed by those of the remaining names
abbrev pub invariant-loop-left : goal.invariant-loop-left
invariant-loop-left l =
    pairs_in l.pairs.items ++ exchange_said (task_of l.task) (map name_of l.left) ≡ exchange_said (task_of l.task) (map name_of l.objects)

abbrev pub decreases-loop-left : goal.decreases-loop-left
decreases-loop-left l = length l.left
