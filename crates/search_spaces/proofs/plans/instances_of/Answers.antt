use Rattle.std.proofs.Common.{◌<◌, refl, ap, get_or, length, arith}
use Rattle.std.proofs.lemmas.List.{length-map}
use Rattle.std.proofs.lemmas.Option.{slice_get_read}
use Rattle.formulas.specs.State.{instance_of}
use Rattle.grounding.specs.Ground.{task_in}
use Rattle.search_spaces.proofs.PlanLemmas.{named_next, names_kept}
use Rattle.search_spaces.proofs.plans.instances_of.Goals as goal

pub loop-number-preserved : goal.loop-number-preserved
loop-number-preserved c =
    let task = task_in c.args.ground.now in
    let number = get_or c.args.numbers.now c.loop-number.number-index 0 in
    let below : number < length c.instances-instances.result.now = omega (arith, c.requires c.loop-number.number-index 0 c.loop-number-test.true, ap length c.instances-instances.ensures, length-map c.instances-instances.result.now instance_of) in
    let at = slice_get_read c.instances-instances.result.now _ number c.index-instances-number.result refl below c.index-instances-number.is in
    let here = names_kept task c.instances-instances.result.now number c.index-instances-number.result _ c.instances-instances.ensures at refl c.copied.ensures in
    named_next c.loop-number.steps.items c.push.new.self.items _ task c.args.numbers.now c.loop-number.number-index 0 c.loop-number-test.true c.loop-number.invariant c.in_ok-push.ensures.items here
