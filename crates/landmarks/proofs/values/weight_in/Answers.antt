use Rattle.std.proofs.Common.{length}
use Rattle.packed_state.specs.Packed.{bits_of}
use Rattle.landmark_zones.specs.Landmarks.{landmarks_of}
use Rattle.landmarks.proofs.ValueLemmas.{zone-is-over}
use Rattle.landmarks.proofs.values.weight_in.Goals as goal

pub is_whole-requires : goal.is_whole-requires
is_whole-requires c =
    zone-is-over (length (bits_of c.args.state.now)) (landmarks_of c.args.landmarks.now).zones c.args.share.zone _ c.requires.over c.zone.ensures
