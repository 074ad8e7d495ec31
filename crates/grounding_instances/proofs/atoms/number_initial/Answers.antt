use Rattle.std.proofs.Common.{ap, map}
use Rattle.faults.proofs.Results.{passed_on}
use Rattle.task.specs.Task.{task_of}
use Rattle.task.specs.TaskParts.{atom_of}
use Rattle.model.specs.NumberedAtoms.{with_atoms, initial_fluent_atoms}
use Rattle.model.proofs.NumberingLemmas.{numbered-end}
use Rattle.grounding_instances.specs.Atoms.{ReportsAtoms}
use Rattle.grounding_instances.proofs.NumberLists.{item-reported, next-numbered, got-item, if_fluent, initial-atoms}
use Rattle.grounding_instances.proofs.atoms.number_initial.Goals as goal

pub loop-atom-init : goal.loop-atom-init
loop-atom-init c =
    let t = task_of c.args.statics.now.task.now in
    record { all = ap (with_atoms (map atom_of c.args.atoms.now.keys)) (initial-atoms t c.init-atom-items.result.now c.init-atom-items.ensures); few = c.requires }

pub returns-in_err-number_if_fluent-clause-reported : goal.returns-in_err-number_if_fluent-clause-reported
returns-in_err-number_if_fluent-clause-reported c =
    let t = task_of c.args.statics.now.task.now in
    let items = c.init-atom-items.result.now in
    let now = map atom_of c.loop-atom.atoms.keys in
    let whole = with_atoms (map atom_of c.args.atoms.now.keys) (initial_fluent_atoms t) in
    let e = c.in_err-number_if_fluent.field-0.0 in
    passed_on (ReportsAtoms whole) c.from_residual.result e c.from_residual.ensures.1
    (item-reported (if_fluent t) items c.loop-atom.atom-index c.atom-item.result (got-item items c.loop-atom.atom-index c.atom-item.result c.loop-atom-test.true c.atom-item.is)
    now whole c.loop-atom.invariant.all e c.in_err-number_if_fluent.ensures.reported)

pub loop-atom-preserved : goal.loop-atom-preserved
loop-atom-preserved c =
    let t = task_of c.args.statics.now.task.now in
    let items = c.init-atom-items.result.now in
    let now = map atom_of c.loop-atom.atoms.keys in
    let whole = with_atoms (map atom_of c.args.atoms.now.keys) (initial_fluent_atoms t) in
    let got = got-item items c.loop-atom.atom-index c.atom-item.result c.loop-atom-test.true c.atom-item.is in
    record {
      all = next-numbered (if_fluent t) items c.loop-atom.atom-index c.atom-item.result got now whole c.loop-atom.invariant.all (map atom_of c.number_if_fluent.new.atoms.keys) c.in_ok-number_if_fluent.ensures.numbered;
      few = c.in_ok-number_if_fluent.ensures.few;
    }

pub returns-clause-numbered : goal.returns-clause-numbered
returns-clause-numbered c =
    let t = task_of c.args.statics.now.task.now in
    numbered-end (if_fluent t) (c.init-atom-items.result.now) c.loop-atom.atom-index (map atom_of c.loop-atom.atoms.keys) _ c.loop-atom-test.false c.loop-atom.invariant.all
