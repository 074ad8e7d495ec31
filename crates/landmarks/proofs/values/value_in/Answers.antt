use Rattle.std.proofs.Common.{◌∙◌, sum_by, ap}
use Rattle.std.proofs.lemmas.List.{take_all}
use Rattle.packed_state.specs.Packed.{bits_of}
use Rattle.lower_bounds.specs.LandmarkFunctions.{gives}
use Rattle.landmark_zones.specs.declared.values.Share.{Share}
use Rattle.landmark_zones.specs.Landmarks.{landmarks_of, share_of}
use Rattle.landmarks.specs.Values.{share_gives}
use Rattle.landmarks.proofs.ValueLemmas.{all-count}
use Rattle.landmarks.proofs.values.value_in.Goals as goal

pub returns : goal.returns
returns c =
    let zones = (landmarks_of c.args.landmarks.now).zones in
    let bits = bits_of c.args.state.now in
    let shares = c.args.shares.now in
    c.loop-share.invariant.total ∙ ap (sum_by (λ (s : Share). share_gives zones bits (share_of s))) (take_all c.loop-share.share-index shares c.loop-share-test.false)
    ∙ all-count zones (gives bits) shares
