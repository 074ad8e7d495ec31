use Rattle.std.proofs.Common.{◌≡◌, ◌∙◌, ◌+◌, List, drop, length, map, sym, ap}
use Rattle.std.specs.Prelude.{◌&&◌}
use Rattle.std.specs.List.{list_all}
use Rattle.lower_bounds.specs.LandmarkLines.{is_zone}
use Rattle.landmark_zones.specs.Landmarks.{landmarks_of, share_of}
use Rattle.landmark_zones.proofs.LimitsLemmas.{one-decides}
use Rattle.landmark_zones.proofs.landmarks.Landmarks.are_zones.Goals as goal
use Rattle.landmark_zones.proofs.landmarks.Landmarks.are_zones.Goals.{After-is_zone}

-- this one and those after it decide
decided : (c : After-is_zone) → list_all (is_zone c.args.atom_count) (landmarks_of c.args.self.now).zones ≡ c.is_zone.result && list_all (is_zone c.args.atom_count) (drop (c.loop-number.number + 1) (landmarks_of c.args.self.now).zones)
decided c = c.loop-number.invariant ∙ one-decides (is_zone c.args.atom_count) (landmarks_of c.args.self.now).zones c.loop-number.number _ c.zone.ensures c.is_zone.result c.is_zone.ensures

pub returns-then-not-is_zone : goal.returns-then-not-is_zone
returns-then-not-is_zone c =
    let rest = list_all (is_zone c.args.atom_count) (drop (c.loop-number.number + 1) (landmarks_of c.args.self.now).zones) in
    sym (decided (goal.at.returns-then-not-is_zone c).After-is_zone ∙ (λ k. c.if-not-is_zone.true k && rest))

pub loop-number-preserved : goal.loop-number-preserved
loop-number-preserved c =
    let rest = list_all (is_zone c.args.atom_count) (drop (c.loop-number.number + 1) (landmarks_of c.args.self.now).zones) in
    decided (goal.at.loop-number-preserved c).After-is_zone ∙ (λ k. c.if-not-is_zone.false k && rest)
