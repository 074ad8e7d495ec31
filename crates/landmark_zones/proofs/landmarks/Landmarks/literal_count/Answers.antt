use Rattle.std.proofs.Common.{◌∙◌}
use Rattle.landmark_zones.proofs.LimitsLemmas.{literals-counted}
use Rattle.landmark_zones.proofs.landmarks.Landmarks.literal_count.Goals as goal

pub returns : goal.returns
returns c =
    let z = c.args.self.now.zones in
    c.len.ensures ∙ z.numbers.ok.0 ∙ literals-counted z.ends.items z.numbers.items c.args.self.now.zones_fit
