use Rattle.std.proofs.Common.{◌≡◌, ◌∙◌, ◌+◌, drop, length, map, sym, ap}
use Rattle.std.specs.Prelude.{◌&&◌}
use Rattle.std.specs.List.{list_all}
use Rattle.lower_bounds.specs.LandmarkLines.{is_value}
use Rattle.landmark_zones.specs.Landmarks.{landmarks_of, share_of}
use Rattle.landmark_zones.proofs.LimitsLemmas.{one-decides}
use Rattle.landmark_zones.proofs.landmarks.Landmarks.are_values.Goals as goal
use Rattle.landmark_zones.proofs.landmarks.Landmarks.are_values.Goals.{After-is_value}

-- this one and those after it decide
decided : (c : After-is_value) → list_all (is_value (length (landmarks_of c.args.self.now).zones)) (landmarks_of c.args.self.now).values ≡ c.is_value.result && list_all (is_value (length (landmarks_of c.args.self.now).zones)) (drop (c.loop-number.number + 1) (landmarks_of c.args.self.now).values)
decided c = c.loop-number.invariant ∙ one-decides (is_value (length (landmarks_of c.args.self.now).zones)) (landmarks_of c.args.self.now).values c.loop-number.number _ c.value.ensures c.is_value.result (c.is_value.ensures ∙ ap (λ n. is_value n (map share_of c.value.result.now)) c.zone_count.ensures)

pub returns-then-not-is_value : goal.returns-then-not-is_value
returns-then-not-is_value c =
    let rest = list_all (is_value (length (landmarks_of c.args.self.now).zones)) (drop (c.loop-number.number + 1) (landmarks_of c.args.self.now).values) in
    sym (decided (goal.at.returns-then-not-is_value c).After-is_value ∙ (λ k. c.if-not-is_value.true k && rest))

pub loop-number-preserved : goal.loop-number-preserved
loop-number-preserved c =
    let rest = list_all (is_value (length (landmarks_of c.args.self.now).zones)) (drop (c.loop-number.number + 1) (landmarks_of c.args.self.now).values) in
    decided (goal.at.loop-number-preserved c).After-is_value ∙ (λ k. c.if-not-is_value.false k && rest)
