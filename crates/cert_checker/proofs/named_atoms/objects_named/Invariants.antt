-- the objects so far are those of the names so far
use Rattle.std.proofs.Common.{◌≡◌, length, map, take}
use Rattle.task.specs.Task.{task_of}
use Rattle.task.specs.TaskParts.{object_of}
use Rattle.model.specs.PlanText.{object_names}
use Rattle.certificate_reader.specs.Lines.{name_of}
use Rattle.certificate_definitions.specs.CertificateNames.{AreNumbersOf}
use Rattle.cert_checker.proofs.named_atoms.objects_named.Given as goal

abbrev pub invariant-loop-name : goal.invariant-loop-name
invariant-loop-name l = record {
  are : AreNumbersOf (object_names (task_of l.task)) (map name_of (take l.name-index l.fn.names)) (map object_of l.objects.items);
  count : length l.objects.items ≡ l.name-index;
}
