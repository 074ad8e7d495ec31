use Rattle.std.proofs.Common.{length, map, arith}
use Rattle.std.proofs.lemmas.List.{length-map}
use Rattle.packed_state.specs.Packed.{bits_of}
use Rattle.landmark_zones.specs.Landmarks.{landmarks_of, share_of}
use Rattle.guides.proofs.TestedLemmas.{few_shares, kept_over}
use Rattle.line_evidence.proofs.sampled.is_beyond.Goals as goal

pub value-requires : goal.value-requires
value-requires c = omega (arith, c.requires.one)

pub value_in-value-requires-clause-over : goal.value_in-value-requires-clause-over
value_in-value-requires-clause-over c = kept_over (length (bits_of c.args.state.now)) (landmarks_of c.args.draft.now.landmarks) c.requires.limits

pub value_in-value-requires-clause-few : goal.value_in-value-requires-clause-few
value_in-value-requires-clause-few c =
    let few = few_shares (length (bits_of c.args.state.now)) (landmarks_of c.args.draft.now.landmarks) (map share_of c.value.result.now) (record { one = c.requires.one; limits = c.requires.limits }) c.value.ensures in
    omega (arith, few, length-map c.value.result.now share_of)
