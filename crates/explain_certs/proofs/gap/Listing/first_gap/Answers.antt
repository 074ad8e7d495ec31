use Rattle.std.proofs.Common.{◌∙◌, sym}
use Rattle.task.specs.Task.{task_of}
use Rattle.formulas.specs.State.{instance_of}
use Rattle.formulas.specs.declared.instance.Instance.{Instance}
use Rattle.model.specs.Meaning.{is_instance}
use Rattle.model.proofs.Tests.{passes_at, passes_map}
use Rattle.explain_certs.proofs.gap.Listing.first_gap.Goals as goal

pub gap_by-requires : goal.gap_by-requires
gap_by-requires c =
    let t = task_of c.args.self.now.cert.task.now in
    passes_at (λ (i : Instance). is_instance t (instance_of i)) c.args.instances.now c.loop-step.step-index c.step-item.result c.loop-step-test.true c.step-item.is
    (sym (passes_map (is_instance t) instance_of c.args.instances.now) ∙ c.requires)
