use Rattle.std.proofs.Common.{arith}
use Rattle.guides.proofs.on_demand.LandmarksOnDemand.is_done.Goals as goal

pub returns : goal.returns
returns c = λ _. omega (arith, c.args.self.now.values.ok.0)
