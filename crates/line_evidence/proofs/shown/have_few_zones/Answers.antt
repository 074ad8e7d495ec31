use Rattle.std.proofs.Common.{◌≡◌, ◌∙◌, ◌+◌, drop, sym}
use Rattle.std.specs.Prelude.{◌&&◌}
use Rattle.std.specs.List.{list_all}
use Rattle.landmark_zones.specs.Landmarks.{landmarks_of}
use Rattle.landmark_zones.proofs.LimitsLemmas.{one-decides}
use Rattle.line_evidence.specs.Shown.{has_few_zones}
use Rattle.line_evidence.proofs.shown.have_few_zones.Goals as goal
use Rattle.line_evidence.proofs.shown.have_few_zones.Goals.{After-has_few_zones}

-- this one and those after it decide
decided : (c : After-has_few_zones) → list_all has_few_zones (landmarks_of c.args.landmarks.now).values ≡ c.has_few_zones.result && list_all has_few_zones (drop (c.loop-number.number + 1) (landmarks_of c.args.landmarks.now).values)
decided c = c.loop-number.invariant ∙ one-decides has_few_zones (landmarks_of c.args.landmarks.now).values c.loop-number.number _ c.value.ensures c.has_few_zones.result c.has_few_zones.ensures

pub returns-then-not-has_few_zones : goal.returns-then-not-has_few_zones
returns-then-not-has_few_zones c =
    let rest = list_all has_few_zones (drop (c.loop-number.number + 1) (landmarks_of c.args.landmarks.now).values) in
    sym (decided (goal.at.returns-then-not-has_few_zones c).After-has_few_zones ∙ (λ k. c.if-not-has_few_zones.true k && rest))

pub loop-number-preserved : goal.loop-number-preserved
loop-number-preserved c =
    let rest = list_all has_few_zones (drop (c.loop-number.number + 1) (landmarks_of c.args.landmarks.now).values) in
    decided (goal.at.loop-number-preserved c).After-has_few_zones ∙ (λ k. c.if-not-has_few_zones.false k && rest)
