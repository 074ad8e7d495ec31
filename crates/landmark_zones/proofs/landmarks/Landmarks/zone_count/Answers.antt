use Rattle.std.proofs.Common.{◌∙◌, sym}
use Rattle.landmark_zones.proofs.ZoneLemmas.{length-zones}
use Rattle.landmark_zones.proofs.landmarks.Landmarks.zone_count.Goals as goal

pub returns : goal.returns
returns c = let z = c.args.self.now.zones in c.len.ensures ∙ z.ends.ok.0 ∙ sym (length-zones 0 z.ends.items z.numbers.items)
