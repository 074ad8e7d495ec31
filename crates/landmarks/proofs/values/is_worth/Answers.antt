use Rattle.std.proofs.Common.{◌∙◌, ◌≡◌, ℕ, map, sum_by, sym, ap, arith}
use Rattle.std.specs.Prelude.{nat_le}
use Rattle.std.specs.List.{filter_map}
use Rattle.std.proofs.lemmas.Bool.{le-leb}
use Rattle.std.proofs.lemmas.List.{take_all}
use Rattle.std.proofs.lemmas.List.Sums.{sum_by-take-le}
use Rattle.packed_state.specs.Packed.{bits_of}
use Rattle.lower_bounds.specs.LandmarkFunctions.{gives}
use Rattle.lower_bounds.specs.LandmarkLines.{landmark_of}
use Rattle.landmark_zones.specs.declared.values.Share.{Share}
use Rattle.landmark_zones.specs.Landmarks.{landmarks_of, share_of}
use Rattle.landmarks.specs.Values.{share_gives}
use Rattle.landmarks.proofs.ValueLemmas.{all-count}
use Rattle.landmarks.proofs.values.is_worth.Goals as goal

pub returns-then-reached-least : goal.returns-then-reached-least
returns-then-reached-least c =
    let zones = (landmarks_of c.args.landmarks.now).zones in
    let bits = bits_of c.args.state.now in
    let shares = c.args.shares.now in
    let f : Share → ℕ = λ (s : Share). share_gives zones bits (share_of s) in
    let whole : ℕ = sum_by (gives bits) (filter_map (landmark_of zones) (map share_of shares)) in
    let all : sum_by f shares ≡ whole = all-count zones (gives bits) shares in
    sym (le-leb c.args.least whole (omega (arith, c.if-reached-least.true, c.loop-share.invariant.reached, sum_by-take-le f shares c.loop-share.share-index, all)))

pub returns : goal.returns
returns c =
    let zones = (landmarks_of c.args.landmarks.now).zones in
    let bits = bits_of c.args.state.now in
    let shares = c.args.shares.now in
    let f : Share → ℕ = λ (s : Share). share_gives zones bits (share_of s) in
    ap (nat_le c.args.least) (c.loop-share.invariant.reached ∙ ap (sum_by f) (take_all c.loop-share.share-index shares c.loop-share-test.false) ∙ all-count zones (gives bits) shares)
