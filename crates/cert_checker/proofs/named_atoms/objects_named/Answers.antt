use Rattle.std.proofs.Common.{rules, ◌<◌, length, map, sym}
use Rattle.task.specs.Task.{task_of}
use Rattle.model.specs.PlanText.{object_names}
use Rattle.certificate_reader.specs.Lines.{name_of}
use Rattle.cert_checker.proofs.NamesLemmas.{got, unnamed}
use Rattle.cert_checker.proofs.named_atoms.objects_named.Goals as goal

pub returns-in_default-clause-none : goal.returns-in_default-clause-none
returns-in_default-clause-none c = λ numbers are few.
    let names = c.args.names.now in
    let below : c.loop-name.name-index < length names = search rules in
    let nowhere = rw c.deref.ensures.value at c.in_default.ensures in
    unnamed (object_names (task_of c.args.task.now)) (map name_of names) c.loop-name.name-index (name_of c.name-item.result) numbers
    (got name_of names c.loop-name.name-index c.name-item.result below c.name-item.is) (sym nowhere) are
