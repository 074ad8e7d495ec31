use Rattle.landmark_zones.specs.Landmarks.{landmarks_of}
use Rattle.model.proofs.ListLemmas.{Contains-got}
use Rattle.landmarks.proofs.testing.is_of_goal.Goals as goal

pub has_any-requires : goal.has_any-requires
has_any-requires c = c.requires _ (Contains-got (landmarks_of c.args.landmarks.now).zones c.args.share.zone _ c.zone.ensures)
