use Rattle.std.proofs.Common.{ap, map}
use Rattle.std.specs.List.{each_same}
use Rattle.task.specs.Task.{task_of}
use Rattle.task.specs.TaskParts.{atom_of}
use Rattle.formulas.proofs.States.{copied}
use Rattle.model.specs.NumberedAtoms.{occurs_in}
use Rattle.grounding_instances.proofs.HashedAtoms.{hashed-more, hashed-all}
use Rattle.grounding_instances.proofs.initial.InitialAtoms.new.Goals as goal

pub loop-atom-init : goal.loop-atom-init
loop-atom-init c = λ q. ap (λ l. occurs_in (map atom_of l) q) c.new-atoms.ensures.empty

pub loop-atom-preserved : goal.loop-atom-preserved
loop-atom-preserved c =
    let copy = c.in_ok-clone.field-0 in
    let same = copied c.atom-item.result copy c.in_ok-clone.ensures.cases.0 (each_same c.atom-item.result.objects.items copy.objects.items c.in_ok-clone.ensures.cases.1) in
    hashed-more c.init-atom-items.result.now c.loop-atom.atom-index c.atom-item.result copy c.loop-atom-test.true c.atom-item.is same
    c.loop-atom.atoms.keys c.insert.new.self.keys c.in_ok-insert.ensures.keys c.loop-atom.invariant

pub returns : goal.returns
returns c =
    hashed-all c.init-atom-items.result.now c.loop-atom.atom-index c.loop-atom.atoms.keys (task_of c.args.task.now).init c.loop-atom-test.false c.init-atom-items.ensures c.loop-atom.invariant
