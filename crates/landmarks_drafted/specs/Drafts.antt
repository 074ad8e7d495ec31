-- What is promised of a draft: its form, and nothing of its worth.
use Rattle.std.specs.Prelude.{◌≡◌, ℕ, true, length}
use Rattle.lower_bounds.specs.LandmarkLines.{keep_limits}
use Rattle.landmark_zones.specs.Landmarks.{landmarks_of}
use Rattle.landmarks_drafted.specs.declared.draft.Draft.{Draft}
use Rattle.landmarks_drafted.specs.declared.drafter.CutDrafter.{CutDrafter}

-- the draft is one value, within the limits of a certificate's text with this many atoms
pub record IsOneValue (atom_count : ℕ) (d : Draft) : Type 0 where
  pub one : length (landmarks_of d.landmarks).values ≡ 1
  pub limits : keep_limits atom_count (landmarks_of d.landmarks) ≡ true

-- the number of atoms of the drafter's ground task
abbrev pub atom_count_of : CutDrafter → ℕ
atom_count_of d = d.atom_count
