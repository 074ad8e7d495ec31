use Rattle.std.proofs.Common.{◌≡◌, ◌∙◌, Some, ap, map, sym, subst, arith}
use Rattle.std.specs.Prelude.{slice_get}
use Rattle.std.proofs.lemmas.List.{length-map}
use Rattle.formulas.specs.State.{instance_of}
use Rattle.grounding_instances.specs.Numbering.{task_in, atoms_in}
use Rattle.grounding.specs.Preconditions.{IsPrecondition}
use Rattle.grounding.specs.InPlace.{AreInPlace}
use Rattle.grounding.proofs.GroundLemmas.{got-mapped}
use Rattle.grounding.proofs.InPlaceLemmas.{so_far-more, so_far-end}
use Rattle.grounding.proofs.StepLemmas.{kept-is_instance}
use Rattle.grounding.proofs.parts.preconditions.Goals as goal

pub precondition-requires : goal.precondition-requires
precondition-requires c =
    let n = c.args.numbering.now in
    let items = c.instances-instances.result.now in
    let k = c.loop-instance.instance-index in
    let at : slice_get (map instance_of items) k ≡ Some (instance_of c.instance-item.result) = got-mapped instance_of items k c.instance-item.result c.loop-instance-test.true c.instance-item.is in
    kept-is_instance (task_in n) k (instance_of c.instance-item.result)
    (ap (λ l. slice_get l k) (sym n.kept) ∙ ap (λ l. slice_get l k) (sym c.instances-instances.ensures) ∙ at)

pub loop-instance-preserved : goal.loop-instance-preserved
loop-instance-preserved c =
    let n = c.args.numbering.now in
    let items = c.instances-instances.result.now in
    let k = c.loop-instance.instance-index in
    let at : slice_get (map instance_of items) k ≡ Some (instance_of c.instance-item.result) = got-mapped instance_of items k c.instance-item.result c.loop-instance-test.true c.instance-item.is in
    so_far-more (IsPrecondition (task_in n) (atoms_in n)) (map instance_of items) c.loop-instance.found.items c.push.new.self.items k (instance_of c.instance-item.result) c.in_ok-precondition.field-0 at
    c.in_ok-push.ensures.items c.in_ok-precondition.ensures c.loop-instance.invariant

pub returns : goal.returns
returns c =
    let n = c.args.numbering.now in
    let items = c.instances-instances.result.now in
    let k = c.loop-instance.instance-index in
    subst (λ l. AreInPlace (IsPrecondition (task_in n) (atoms_in n)) l c.loop-instance.found.items) c.instances-instances.ensures
    (so_far-end (IsPrecondition (task_in n) (atoms_in n)) (map instance_of items) c.loop-instance.found.items k
    (omega (arith, c.loop-instance-test.false, length-map items instance_of)) (omega (arith, c.loop-instance.auto.instance-index-end, length-map items instance_of)) c.loop-instance.invariant)
