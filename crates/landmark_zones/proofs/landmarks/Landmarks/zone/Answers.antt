use Rattle.std.proofs.Common.{arith}
use Rattle.landmark_zones.proofs.ZoneLemmas.{length-zones}
use Rattle.landmark_zones.proofs.landmarks.Landmarks.zone.Goals as goal

pub of-requires-clause-there : goal.of-requires-clause-there
of-requires-clause-there c =
    let z = c.args.self.now.zones in
    omega (arith, c.requires, length-zones 0 z.ends.items z.numbers.items)
