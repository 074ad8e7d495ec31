use Rattle.std.proofs.Common.{◌≤◌, ◌∙◌, ap, map, length, subst, arith, refl}
use Rattle.std.proofs.lemmas.List.{length-map}
use Rattle.faults.proofs.Results.{passed_on}
use Rattle.task.specs.Task.{task_of}
use Rattle.task.specs.TaskParts.{atom_of}
use Rattle.formulas.specs.State.{instance_of}
use Rattle.model.specs.StaticallyFalse as statically_false
use Rattle.model.specs.Limits.{max_numbered_atoms}
use Rattle.model.proofs.GroundTaskLemmas.{reported_none}
use Rattle.grounding_instances.specs.Numbering.{ReportsLimit}
use Rattle.grounding_instances.specs.KeptChanges.{AreKept}
use Rattle.grounding_instances.proofs.NumberedFacts.{atoms-fluent, atoms-distinct}
use Rattle.grounding_instances.proofs.LimitsReported.{first-reported, second-reported}
use Rattle.grounding_instances.proofs.numbering.Numbering.of_statics.Goals as goal

pub numbered_atoms-requires : goal.numbered_atoms-requires
numbered_atoms-requires c = ap (map instance_of) c.as_slice.ensures.value ∙ c.in_ok-instances.ensures.kept

pub returns-in_err-instances-clause-reported : goal.returns-in_err-instances-clause-reported
returns-in_err-instances-clause-reported c =
    let t = task_of c.args.statics.task.now in
    let more = map atom_of c.args.more.now in
    let e = c.in_err-instances.field-0.0 in
    passed_on (ReportsLimit t more c.args.max_instances) c.from_residual.result e c.from_residual.ensures.1 (first-reported t more c.args.max_instances e c.in_err-instances.ensures.reported)

pub returns-in_err-atoms-clause-reported : goal.returns-in_err-atoms-clause-reported
returns-in_err-atoms-clause-reported c =
    let t = task_of c.args.statics.task.now in
    let more = map atom_of c.args.more.now in
    let e = c.in_err-atoms.field-0.0 in
    let few : length (statically_false.kept_instances t) ≤ c.args.max_instances = omega (arith, c.in_ok-instances.ensures.few, ap length c.in_ok-instances.ensures.kept, length-map c.in_ok-instances.instances.items instance_of) in
    passed_on (ReportsLimit t more c.args.max_instances) c.from_residual-in_err-atoms.result e c.from_residual-in_err-atoms.ensures.1
    (second-reported t more c.args.max_instances e few c.in_err-atoms.ensures.reported)

pub returns-clause-numbering : goal.returns-clause-numbering
returns-clause-numbering c =
    let t = task_of c.args.statics.task.now in
    let more = map atom_of c.args.more.now in
    let instances = c.in_ok-instances.instances.items in
    let atoms = c.in_ok-atoms.atoms.keys in
    record {
      task = refl;
      instances = c.in_ok-instances.ensures.kept;
      atoms = c.in_ok-atoms.ensures.numbered;
      within = reported_none t more c.args.max_instances max_numbered_atoms
          (omega (arith, c.in_ok-instances.ensures.few, ap length c.in_ok-instances.ensures.kept, length-map instances instance_of))
          (omega (arith, c.in_ok-atoms.ensures.few, ap length c.in_ok-atoms.ensures.numbered, length-map atoms atom_of));
    }

pub invariant_of-result : goal.invariant_of-result
invariant_of-result c =
    let t = task_of c.args.statics.task.now in
    let more = map atom_of c.args.more.now in
    let atoms = map atom_of c.in_ok-atoms.atoms.keys in
    record {
      few_atoms = c.in_ok-atoms.ensures.few;
      kept = c.in_ok-instances.ensures.kept;
      fluent = atoms-fluent t more atoms c.in_ok-atoms.ensures.numbered c.requires.fluent;
      distinct = atoms-distinct t more atoms c.in_ok-atoms.ensures.numbered;
    }

pub returns-clause-kept : goal.returns-clause-kept
returns-clause-kept c none =
    subst (λ l. AreKept (task_of c.args.statics.task.now) (map atom_of c.in_ok-atoms.atoms.keys) (map instance_of l) c.numbered_atoms.new.changes) c.as_slice.ensures.value (c.in_ok-atoms.ensures.kept none)
