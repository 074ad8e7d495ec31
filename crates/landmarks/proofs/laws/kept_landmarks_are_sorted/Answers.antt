use Rattle.landmarks.proofs.Kept.{kept-sorted}
use Rattle.landmarks.proofs.laws.kept_landmarks_are_sorted.Goals as goal

pub returns : goal.returns
returns c = kept-sorted
