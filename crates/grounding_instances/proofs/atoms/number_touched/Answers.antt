use Rattle.std.proofs.Common.{◌∙◌, ap, sym, subst, map, take}
use Rattle.std.proofs.lemmas.List.{take_all}
use Rattle.std.specs.List.{flat_map}
use Rattle.faults.proofs.Results.{passed_on}
use Rattle.task.specs.Task.{task_of}
use Rattle.task.specs.TaskParts.{atom_of}
use Rattle.formulas.specs.State.{instance_of}
use Rattle.formulas.specs.declared.instance.Instance.{Instance}
use Rattle.model.specs.Meaning.{is_instance}
use Rattle.model.specs.NumberedAtoms.{with_atoms, touched_by}
use Rattle.model.proofs.Tests.{passes_at, passes_map}
use Rattle.model.proofs.NumberingLemmas.{numbered-end, flat_map-map}
use Rattle.grounding_instances.specs.Atoms.{ReportsAtoms}
use Rattle.grounding_instances.specs.KeptChanges.{AreKept}
use Rattle.grounding_instances.proofs.KeptLemmas.{kept-none, mapped-more}
use Rattle.grounding_instances.proofs.NumberLists.{item-reported, next-numbered, got-item}
use Rattle.grounding_instances.proofs.atoms.number_touched.Goals as goal

pub loop-instance-init : goal.loop-instance-init
loop-instance-init c =
    let t = task_of c.args.statics.now.task.now in
    record { all = ap (with_atoms (map atom_of c.args.atoms.now.keys)) (sym (flat_map-map (touched_by t) instance_of c.args.instances.now)); few = c.requires.few; keeps = λ none. none.keeps; kept = λ none. kept-none t (map atom_of c.args.atoms.now.keys) c.args.kept.now none }

pub number_instance-requires-clause-instance : goal.number_instance-requires-clause-instance
number_instance-requires-clause-instance c =
    let t = task_of c.args.statics.now.task.now in
    passes_at (λ (i : Instance). is_instance t (instance_of i)) c.args.instances.now c.loop-instance.instance-index c.instance-item.result c.loop-instance-test.true c.instance-item.is
    (sym (passes_map (is_instance t) instance_of c.args.instances.now) ∙ c.requires.instances)

pub returns-in_err-number_instance-clause-reported : goal.returns-in_err-number_instance-clause-reported
returns-in_err-number_instance-clause-reported c =
    let t = task_of c.args.statics.now.task.now in
    let items = c.args.instances.now in
    let now = map atom_of c.loop-instance.atoms.keys in
    let whole = with_atoms (map atom_of c.args.atoms.now.keys) (flat_map (touched_by t) (map instance_of c.args.instances.now)) in
    let e = c.in_err-number_instance.field-0.0 in
    passed_on (ReportsAtoms whole) c.from_residual.result e c.from_residual.ensures.1
    (item-reported (λ (i : Instance). touched_by t (instance_of i)) items c.loop-instance.instance-index c.instance-item.result (got-item items c.loop-instance.instance-index c.instance-item.result c.loop-instance-test.true c.instance-item.is)
    now whole c.loop-instance.invariant.all e c.in_err-number_instance.ensures.reported)

pub loop-instance-preserved : goal.loop-instance-preserved
loop-instance-preserved c =
    let t = task_of c.args.statics.now.task.now in
    let items = c.args.instances.now in
    let now = map atom_of c.loop-instance.atoms.keys in
    let whole = with_atoms (map atom_of c.args.atoms.now.keys) (flat_map (touched_by t) (map instance_of c.args.instances.now)) in
    let got = got-item items c.loop-instance.instance-index c.instance-item.result c.loop-instance-test.true c.instance-item.is in
    record {
      all = next-numbered (λ (i : Instance). touched_by t (instance_of i)) items c.loop-instance.instance-index c.instance-item.result got now whole c.loop-instance.invariant.all (map atom_of c.number_instance.new.atoms.keys) c.in_ok-number_instance.ensures.numbered;
      few = c.in_ok-number_instance.ensures.few;
      keeps = λ none. c.in_ok-number_instance.ensures.keeps ∙ c.loop-instance.invariant.keeps none;
      kept = λ none.
          subst (λ l. AreKept t (map atom_of c.number_instance.new.atoms.keys) l c.number_instance.new.kept)
          (mapped-more instance_of items c.loop-instance.instance-index c.instance-item.result c.loop-instance-test.true c.instance-item.is)
          (c.in_ok-number_instance.ensures.kept (c.loop-instance.invariant.keeps none) (map instance_of (take c.loop-instance.instance-index items)) (c.loop-instance.invariant.kept none));
    }

pub returns-clause-numbered : goal.returns-clause-numbered
returns-clause-numbered c =
    let t = task_of c.args.statics.now.task.now in
    numbered-end (λ (i : Instance). touched_by t (instance_of i)) (c.args.instances.now) c.loop-instance.instance-index (map atom_of c.loop-instance.atoms.keys) _ c.loop-instance-test.false c.loop-instance.invariant.all

pub returns-clause-kept : goal.returns-clause-kept
returns-clause-kept c none =
    let t = task_of c.args.statics.now.task.now in
    subst (λ l. AreKept t (map atom_of c.loop-instance.atoms.keys) (map instance_of l) c.loop-instance.kept)
    (take_all c.loop-instance.instance-index c.args.instances.now c.loop-instance-test.false) (c.loop-instance.invariant.kept none)
