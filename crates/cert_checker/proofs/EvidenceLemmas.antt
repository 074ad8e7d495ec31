-- What packed states have by what lines rest on is what the certificate gives to the states that they stand for. Each kind of
-- evidence has its arms here.
use Rattle.std.proofs.Common.{◌≡◌, ◌∙◌, ℕ, ◌<◌, Bool, false, true, List, [], length, map, get_or, Some, ap, sym, subst, refl}
use Rattle.std.specs.Prelude.{if◌then◌else◌, nat_le, nat_lt, slice_get, sum_by}
use Rattle.std.specs.List.{filter_map}
use Rattle.std.proofs.lemmas.Option.{get_or_from_slice_get}
use Rattle.packed_state.specs.declared.pooled.PooledStore.{PooledStore}
use Rattle.model.specs.Task.{Atom, Task}
use Rattle.model.specs.Grounding.{state_of_bits}
use Rattle.lower_bounds.specs.TableFunctions.{Table, has_rows}
use Rattle.lower_bounds.specs.LandmarkFunctions.{LandmarkFunction, gives, value}
use Rattle.lower_bounds.specs.LandmarkLines.{NumberedLandmarks, Share, functions_of, landmark_of}
use Rattle.landmark_zones.specs.Landmarks.{landmarks_of}
use Rattle.tables.specs.Several.{several_of}
use Rattle.certificate_definitions.specs.Evidence.{Basis, of_all, landmark}
use Rattle.certificate_definitions.specs.Certificates.{Certificate, is_dead_end_by, keeps_limits, landmark_function, value_by}
use Rattle.cert_checker.specs.declared.checker.evidence.GroundEvidence.{GroundEvidence}
use Rattle.cert_checker.specs.GroundEvidence.{has_basis, is_dead_at, landmark_in, value_at, IsEvidenceOf}
use Rattle.cert_checker.specs.PackedLines.{IsPackedListing}
use Rattle.cert_checker.proofs.CertCheckerLemmas.{has_value, slice_get-map}
use Rattle.cert_checker.proofs.ValuesLemmas.{dead_packed, packed_value, value_packed}

-- ---- landmark values

abbrev pub function_of : List Table → NumberedLandmarks → List Share → LandmarkFunction
function_of tables l shares = record { landmarks = filter_map (landmark_of l.zones) shares; tables = tables }

-- the value with a number that there is
pub value_with : (tables : List Table) (l : NumberedLandmarks) (number : ℕ) (shares : List Share) (d : LandmarkFunction) → slice_get l.values number ≡ Some shares
    → get_or (functions_of tables l) number d ≡ function_of tables l shares
value_with tables l number shares d at = get_or_from_slice_get (functions_of tables l) number (function_of tables l shares) d (slice_get-map (function_of tables l) l.values number shares at)

-- in a state with its rows it is the sum of its whole zones, and in others 0
pub value_rows : (h : LandmarkFunction) (bits : List Bool) → has_rows h.tables bits ≡ true → value h bits ≡ sum_by (gives bits) h.landmarks
value_rows h bits all = ap (λ b. if b then sum_by (gives bits) h.landmarks else 0) all

pub value_none : (h : LandmarkFunction) (bits : List Bool) → has_rows h.tables bits ≡ false → value h bits ≡ 0
value_none h bits none = ap (λ b. if b then sum_by (gives bits) h.landmarks else 0) none

-- a value of the certificate is one in its ground task
pub basis_there : (c : Certificate) (e : GroundEvidence) → landmarks_of e.landmarks.now ≡ c.landmarks → (basis : Basis) → has_value (length c.landmarks.values) basis ≡ true → has_basis e basis ≡ true
basis_there c e same of_all has = refl
basis_there c e same (landmark number) has = ap (λ (l : NumberedLandmarks). nat_lt number (length l.values)) same ∙ has

-- ---- each basis

module _ (task : Task) (atoms : List Atom) (c : Certificate) (store : PooledStore) (listed : IsPackedListing task atoms c store) (keeps : keeps_limits c ≡ true)
    (e : GroundEvidence) (have : IsEvidenceOf c (length atoms) e) (bits : List Bool) (long : length bits ≡ length atoms) where
  same_landmark : (number : ℕ) → landmark_in e number ≡ landmark_function c number
  same_landmark number = λ i. get_or (functions_of (have.common.tables i) (have.landmarks i)) number (record { landmarks = []; tables = have.common.tables i })

  landmark_there : (number : ℕ) → value (landmark_in e number) bits ≡ value_by task c (landmark number) (state_of_bits task atoms bits)
  landmark_there number =
      ap (λ h. value h bits) (same_landmark number) ∙ packed_value task atoms c store listed keeps (several_of e.common) have.common bits long (value (landmark_function c number))

  pub value_there_by : (basis : Basis) → value_at e basis bits ≡ value_by task c basis (state_of_bits task atoms bits)
  value_there_by of_all = value_packed task atoms c store listed keeps (several_of e.common) have.common bits long
  value_there_by (landmark number) = landmark_there number

  pub dead_there_by : (basis : Basis) → is_dead_at e basis bits ≡ is_dead_end_by task c basis (state_of_bits task atoms bits)
  dead_there_by of_all = dead_packed task atoms c store listed keeps (several_of e.common) have.common bits long
  dead_there_by (landmark number) = ap (nat_le 1) (landmark_there number)
