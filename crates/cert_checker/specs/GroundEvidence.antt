-- What the state lines of a certificate rest on, in its ground task, in the model's terms. Each kind of evidence has its arms here.
use Rattle.std.specs.Prelude.{◌≡◌, ℕ, nat_le, nat_lt, Bool, true, List, [], get_or, length}
use Rattle.lower_bounds.specs.TableFunctions.{functions_of, dead_ends_of, greatest_value, is_dead_by}
use Rattle.lower_bounds.specs.LandmarkFunctions as landmarks
use Rattle.lower_bounds.specs.LandmarkFunctions.{LandmarkFunction}
use Rattle.lower_bounds.specs.LandmarkLines.{functions_of as landmark_functions}
use Rattle.landmark_zones.specs.Landmarks.{landmarks_of}
use Rattle.tables.specs.declared.known_state.KnownState.{KnownState}
use Rattle.tables.specs.Several.{several_of, width_of, Knows}
use Rattle.certificate_definitions.specs.Evidence.{Basis, of_all, landmark}
use Rattle.certificate_definitions.specs.Certificates as certificates
use Rattle.certificate_definitions.specs.Certificates.{Certificate}
use Rattle.cert_checker.specs.declared.checker.evidence.GroundEvidence.{GroundEvidence}
use Rattle.cert_checker.specs.Weights.{HaveTheirWeights}

-- the number of atoms with a weight
abbrev pub width_in : GroundEvidence → ℕ
width_in e = width_of e.common

-- the landmark value with this number, beside the tables
abbrev pub landmark_in : GroundEvidence → ℕ → LandmarkFunction
landmark_in e number =
    let tables = (several_of e.common).tables in
    get_or (landmark_functions tables (landmarks_of e.landmarks.now)) number (record { landmarks = []; tables = tables })

-- there is this basis
abbrev pub has_basis : GroundEvidence → Basis → Bool
has_basis e of_all = true
has_basis e (landmark number) = nat_lt number (length (landmarks_of e.landmarks.now).values)

-- the value of a packed state by this basis
abbrev pub value_at : GroundEvidence → Basis → List Bool → ℕ
value_at e of_all = greatest_value (functions_of (several_of e.common))
value_at e (landmark number) = landmarks.value (landmark_in e number)

-- by this basis it is a dead end
abbrev pub is_dead_at : GroundEvidence → Basis → List Bool → Bool
is_dead_at e of_all = is_dead_by (dead_ends_of (several_of e.common))
is_dead_at e (landmark number) = landmarks.is_dead_by (landmark_in e number)

-- the evaluation is one by these values
abbrev pub IsKnownBy : GroundEvidence → KnownState → Type 0
IsKnownBy e known = Knows e.common known

-- it is that of the certificate, with a weight for each number below the width
pub record IsEvidenceOf (c : Certificate) (width : ℕ) (e : GroundEvidence) : Type 0 where
  pub common : HaveTheirWeights (certificates.several_of c) width (several_of e.common)
  pub landmarks : landmarks_of e.landmarks.now ≡ c.landmarks
