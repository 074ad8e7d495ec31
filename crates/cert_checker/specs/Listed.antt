-- What the lines of a certificate's text list.
use Rattle.std.specs.Prelude.{◌≡◌, ℕ, ◌<◌, Bool, length, IsTrue, List, map, All}
use Rattle.std.specs.List.{list_all}
use Rattle.packed_state.specs.Sets.{set_of}
use Rattle.model.specs.Claims.{Claim, none}
use Rattle.certificate_definitions.specs.Certificates.{StateLine, rise}
use Rattle.certificate_definitions.specs.CertificateText.{TextLine, version, claims, constant, swapped, atom, part, listed, last}
use Rattle.certificate_definitions.specs.CertificateChecking.{IsCut}
use Rattle.certificate.specs.ListedSets.{Marked, marked}
use Rattle.cert_checker.specs.Given.{states_given}

-- The marks of the states that the lines list, and their sets of numbers below the width; under the claim that no list of actions
-- solves the task, none is a cut.
pub record HaveListed (lines : List TextLine) (claim : Claim) (width : ℕ) (marks : List Marked) (sets : List (List Bool)) : Type 0 where
  pub rising : IsTrue (list_all (λ (l : StateLine). rise width 0 l.atoms) (states_given lines))
  pub marks_are : marks ≡ map marked (states_given lines)
  pub allowed : claim ≡ none → All (λ (l : StateLine). ¬ IsCut l.mark) (states_given lines)
  pub sets_are : sets ≡ map (λ (l : StateLine). set_of width l.atoms) (states_given lines)

-- if the line lists a state, its numbers ascend and are below the width, and there is room for one more
abbrev pub IsFit : ℕ → List (List Bool) → TextLine → Type 0
IsFit width sets (version v) = Unit {0}
IsFit width sets (claims claim) = Unit {0}
IsFit width sets (constant k) = Unit {0}
IsFit width sets (swapped names) = Unit {0}
IsFit width sets (atom a) = Unit {0}
IsFit width sets (part p) = Unit {0}
IsFit width sets (listed l) = IsTrue (rise width 0 l.atoms) × (length sets < 16777216)
IsFit width sets (last count) = Unit {0}
