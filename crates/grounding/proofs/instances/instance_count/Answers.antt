use Rattle.std.proofs.Common.{length, ap, arith}
use Rattle.std.proofs.lemmas.List.{length-map}
use Rattle.grounding.specs.Views.{instance_of}
use Rattle.grounding.proofs.InstanceLemmas.{few-instances}
use Rattle.grounding.proofs.instances.instance_count.Goals as goal

pub overflow_cast-result : goal.overflow_cast-result
overflow_cast-result c = omega (arith, few-instances c.args.ground.now, ap length c.instances.ensures, length-map c.instances.result.now instance_of)

pub returns : goal.returns
returns c = omega (arith, few-instances c.args.ground.now, ap length c.instances.ensures, length-map c.instances.result.now instance_of)
