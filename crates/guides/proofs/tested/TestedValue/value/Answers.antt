use Rattle.std.proofs.Common.{◌∙◌, length, map, arith}
use Rattle.std.proofs.lemmas.List.{length-map}
use Rattle.packed_state.specs.Packed.{bits_of}
use Rattle.landmark_zones.specs.Landmarks.{landmarks_of, share_of}
use Rattle.guides.proofs.TestedLemmas.{few_shares, fits, given, kept_over}
use Rattle.guides.proofs.tested.TestedValue.value.Goals as goal

pub value-shares-requires : goal.value-shares-requires
value-shares-requires c = omega (arith, c.requires.one)

pub value_in-requires-clause-over : goal.value_in-requires-clause-over
value_in-requires-clause-over c = kept_over (length (bits_of c.args.state.now)) (landmarks_of c.args.self.now.landmarks) c.requires.limits

pub value_in-requires-clause-few : goal.value_in-requires-clause-few
value_in-requires-clause-few c =
    let few = few_shares (length (bits_of c.args.state.now)) (landmarks_of c.args.self.now.landmarks) (map share_of c.value-shares.result.now) c.requires c.value-shares.ensures in
    omega (arith, few, length-map c.value-shares.result.now share_of)

pub returns-clause-value : goal.returns-clause-value
returns-clause-value c =
    c.value_in.ensures ∙ given (landmarks_of c.args.self.now.landmarks) (map share_of c.value-shares.result.now) (bits_of c.args.state.now) c.value-shares.ensures

pub returns-clause-fits : goal.returns-clause-fits
returns-clause-fits c =
    let most = fits (length (bits_of c.args.state.now)) (landmarks_of c.args.self.now.landmarks) (map share_of c.value-shares.result.now) (bits_of c.args.state.now) c.requires c.value-shares.ensures in
    omega (arith, most, c.value_in.ensures)
