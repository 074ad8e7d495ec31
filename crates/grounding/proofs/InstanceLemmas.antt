-- The number of kept instances of every ground task.
use Rattle.std.proofs.Common.{◌<◌, ◌^◌, length, ap, arith}
use Rattle.grounding.specs.declared.ground.Ground.{Ground}
use Rattle.grounding.specs.Ground.{task_in}
use Rattle.model.specs.StaticallyFalse.{kept_instances}

pub few-instances : (g : Ground) → length (kept_instances (task_in g)) < 2 ^ 32
few-instances g = omega (arith, g.few, ap length g.numbering.kept)
