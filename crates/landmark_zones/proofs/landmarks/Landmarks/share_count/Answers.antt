use Rattle.std.proofs.Common.{◌∙◌}
use Rattle.landmark_zones.proofs.LimitsLemmas.{shares-counted}
use Rattle.landmark_zones.proofs.landmarks.Landmarks.share_count.Goals as goal

pub returns : goal.returns
returns c =
    let v = c.args.self.now.values in
    c.len.ensures ∙ v.shares.ok.0 ∙ shares-counted v.ends.items v.shares.items c.args.self.now.values_fit
