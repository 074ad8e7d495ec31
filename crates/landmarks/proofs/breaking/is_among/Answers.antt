use Rattle.std.proofs.Common.{◌∙◌}
use Rattle.landmark_zones.proofs.LimitsLemmas.{found-rising}
use Rattle.landmarks.proofs.breaking.is_among.Goals as goal

pub returns : goal.returns
returns c = c.is_ok.ensures.value ∙ found-rising c.args.numbers.now c.args.number c.binary_search.result c.requires c.binary_search.ensures.position
