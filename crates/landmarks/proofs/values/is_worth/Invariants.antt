use Rattle.std.proofs.Common.{◌≡◌, ◌≤◌, ◌*◌, sum_by, take}
use Rattle.packed_state.specs.Packed.{bits_of}
use Rattle.landmark_zones.specs.declared.values.Share.{Share}
use Rattle.landmark_zones.specs.Landmarks.{landmarks_of, share_of}
use Rattle.landmarks.specs.Values.{share_gives}
use Rattle.landmarks.proofs.values.is_worth.Given as goal

-- the weights so far, each below 2 to the power 32
abbrev pub invariant-loop-share : goal.invariant-loop-share
invariant-loop-share l = record {
  reached : l.reached ≡ sum_by (λ (s : Share). share_gives (landmarks_of l.landmarks).zones (bits_of l.state) (share_of s)) (take l.share-index l.shares);
  small : l.reached ≤ l.share-index * 4294967295;
}
