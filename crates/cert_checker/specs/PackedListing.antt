-- A listing over packed states, in the model's terms.
use Rattle.std.specs.Prelude.{◌≡◌, Bool, List, length}
use Rattle.packed_state.specs.declared.packed.Packed.{Packed}
use Rattle.packed_state.specs.Packed.{bits_of}
use Rattle.certificate.specs.Certificate.{certificate_of}
use Rattle.grounding.specs.Ground.{task_in, atoms_in}
use Rattle.cert_checker.specs.declared.checker.packed.PackedListing.{PackedListing}
use Rattle.model.specs.Task.{Atom, Task}
use Rattle.model.specs.Meaning.{State}
use Rattle.certificate_definitions.specs.Evidence.{Basis}
use Rattle.certificate_definitions.specs.Certificates.{Certificate}
use Rattle.tables.specs.declared.known_state.KnownState.{KnownState}
use Rattle.cert_checker.specs.GroundEvidence.{IsKnownBy, has_basis}
use Rattle.model.specs.Grounding.{state_of_bits}

abbrev pub task_at : PackedListing → Task
task_at listing = task_in listing.grounded.now

abbrev pub atoms_at : PackedListing → List Atom
atoms_at listing = atoms_in listing.grounded.now

abbrev pub certificate_at : PackedListing → Certificate
certificate_at listing = certificate_of listing.cert.now

-- it is a packed state of the ground task
abbrev pub IsPacked : PackedListing → Packed → Type 0
IsPacked listing packed = length (bits_of packed) ≡ length (atoms_at listing)

-- the state
abbrev pub state_at : PackedListing → Packed → State
state_at listing packed = state_of_bits (task_at listing) (atoms_at listing) (bits_of packed)

-- there is this basis
abbrev pub has_basis_at : PackedListing → Basis → Bool
has_basis_at listing = has_basis listing.evidence

-- the evaluation is one by what the lines rest on
abbrev pub IsKnownIn : PackedListing → KnownState → Type 0
IsKnownIn listing known = IsKnownBy listing.evidence known
