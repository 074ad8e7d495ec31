use Rattle.std.proofs.Common.{[], ap, map, take, subst}
use Rattle.std.specs.Prelude.{filter}
use Rattle.std.proofs.lemmas.List.{take_all}
use Rattle.faults.proofs.Results.{passed_on}
use Rattle.task.specs.Task.{task_of}
use Rattle.task.specs.TaskParts.{atom_of}
use Rattle.formulas.specs.Effects.{change_of}
use Rattle.model.specs.StaticallyFalse.{counts}
use Rattle.model.specs.NumberedAtoms.{with_atoms}
use Rattle.model.proofs.NumberingLemmas.{numbered-end}
use Rattle.grounding_instances.specs.Atoms.{ReportsAtoms, atoms_changed}
use Rattle.grounding_instances.specs.KeptChanges.{AddsEffects}
use Rattle.grounding_instances.proofs.KeptLemmas.{adds-nothing, adds-more, mapped-more}
use Rattle.grounding_instances.proofs.NumberLists.{item-reported, next-numbered, got-item, got-mapped, if_counting, counting-atoms}
use Rattle.grounding_instances.proofs.changes.number_counting.Goals as goal

pub loop-change-init : goal.loop-change-init
loop-change-init c =
    let t = task_of c.args.statics.now.task.now in
    record { all = ap (with_atoms (map atom_of c.args.atoms.now.keys)) (counting-atoms t c.args.changes.now); few = c.requires.few; found = adds-nothing t (map atom_of c.args.atoms.now.keys) c.args.found.now.items }

pub number_if_counting-requires-clause-fits : goal.number_if_counting-requires-clause-fits
number_if_counting-requires-clause-fits c =
    c.requires.fit c.loop-change.change-index (change_of c.change-item.result)
    (got-mapped change_of c.args.changes.now c.loop-change.change-index c.change-item.result c.loop-change-test.true c.change-item.is)

pub returns-in_err-number_if_counting-clause-reported : goal.returns-in_err-number_if_counting-clause-reported
returns-in_err-number_if_counting-clause-reported c =
    let t = task_of c.args.statics.now.task.now in
    let items = c.args.changes.now in
    let now = map atom_of c.loop-change.atoms.keys in
    let whole = with_atoms (map atom_of c.args.atoms.now.keys) (atoms_changed (filter (counts t) (map change_of c.args.changes.now))) in
    let e = c.in_err-number_if_counting.field-0.0 in
    passed_on (ReportsAtoms whole) c.from_residual.result e c.from_residual.ensures.1
    (item-reported (if_counting t) items c.loop-change.change-index c.change-item.result (got-item items c.loop-change.change-index c.change-item.result c.loop-change-test.true c.change-item.is)
    now whole c.loop-change.invariant.all e c.in_err-number_if_counting.ensures.reported)

pub loop-change-preserved : goal.loop-change-preserved
loop-change-preserved c =
    let t = task_of c.args.statics.now.task.now in
    let items = c.args.changes.now in
    let now = map atom_of c.loop-change.atoms.keys in
    let whole = with_atoms (map atom_of c.args.atoms.now.keys) (atoms_changed (filter (counts t) (map change_of c.args.changes.now))) in
    let got = got-item items c.loop-change.change-index c.change-item.result c.loop-change-test.true c.change-item.is in
    record {
      all = next-numbered (if_counting t) items c.loop-change.change-index c.change-item.result got now whole c.loop-change.invariant.all (map atom_of c.number_if_counting.new.atoms.keys) c.in_ok-number_if_counting.ensures.numbered;
      few = c.in_ok-number_if_counting.ensures.few;
      found = subst (λ xs. AddsEffects t (map atom_of c.number_if_counting.new.atoms.keys) xs c.args.found.now.items c.number_if_counting.new.found.items)
          (mapped-more change_of items c.loop-change.change-index c.change-item.result c.loop-change-test.true c.change-item.is)
          (adds-more t now (map atom_of c.number_if_counting.new.atoms.keys) (if_counting t c.change-item.result) (map change_of (take c.loop-change.change-index items)) (change_of c.change-item.result)
          c.args.found.now.items c.loop-change.found.items c.number_if_counting.new.found.items c.in_ok-number_if_counting.ensures.numbered c.loop-change.invariant.found c.in_ok-number_if_counting.ensures.found);
    }

pub returns-clause-numbered : goal.returns-clause-numbered
returns-clause-numbered c =
    let t = task_of c.args.statics.now.task.now in
    numbered-end (if_counting t) (c.args.changes.now) c.loop-change.change-index (map atom_of c.loop-change.atoms.keys) _ c.loop-change-test.false c.loop-change.invariant.all

pub returns-clause-found : goal.returns-clause-found
returns-clause-found c =
    let t = task_of c.args.statics.now.task.now in
    subst (λ xs. AddsEffects t (map atom_of c.loop-change.atoms.keys) (map change_of xs) c.args.found.now.items c.loop-change.found.items)
    (take_all c.loop-change.change-index c.args.changes.now c.loop-change-test.false) c.loop-change.invariant.found
