-- The state of a reader of a certificate's lines, and which line may come next. The theorem does not cite it: it is equivalent to
-- `BeginCertificate` and `AreWhole` of `CertificateText`, one line at a time.
use Rattle.std.specs.Prelude.{ℕ, ◌+◌, Bool, ◌&&◌, ◌==◌, nat_lt, if◌then◌else◌, List, [], ◌∷◌, length, Option, None, Some}
use Rattle.std.specs.Option.{option_and_then}
use Rattle.certificate_definitions.specs.Certificates.{Version, one, StateLine, has_basis}
use Rattle.certificate_definitions.specs.Parts.{Format, Part, PartCounts, no_parts, how_many, counted, may_follow, has_room}
use Rattle.certificate_definitions.specs.CertificateText.{TextLine, version, claims, constant, swapped, atom, part, listed, last, is_line, most_swaps, most_atoms, most_states}

-- the numbers of exchanges, atoms (in the format), parts and states after the constants
pub record Body : Type 0 where
  pub format : Format
  pub swaps : ℕ
  pub parts : PartCounts
  pub states : ℕ

pub data CertificatePlace : Type 0 where
  at_version : CertificatePlace
  -- the states from here on, in a text of this version
  at_claim : Version → CertificatePlace
  at_constant : Version → CertificatePlace
  in_body : Body → CertificatePlace
  ended : CertificatePlace

-- a text of this version before its constants, of which there will be at least one
abbrev pub no_format : Version → Format
no_format v = record { version = v; weights = 1; atoms = 0 }

-- the known format of the text; where it is not given yet, or does not matter, any will do
abbrev pub format_at : CertificatePlace → Format
format_at at_version = no_format one
format_at (at_claim v) = no_format v
format_at (at_constant v) = no_format v
format_at (in_body b) = b.format
format_at ended = no_format one

-- the body of a text with this many constants
abbrev pub no_body : Version → ℕ → Body
no_body v weights = record { format = record { version = v; weights = weights; atoms = 0 }; swaps = 0; parts = no_parts; states = 0 }

-- one more of each kind
abbrev pub swap_more : Body → Body
swap_more b = record { format = b.format; swaps = b.swaps + 1; parts = b.parts; states = b.states }

abbrev pub atom_more : Body → Body
atom_more b = record {
  format = record { version = b.format.version; weights = b.format.weights; atoms = b.format.atoms + 1 };
  swaps = b.swaps;
  parts = b.parts;
  states = b.states;
}

abbrev pub part_more : Part → Body → Body
part_more p b = record { format = b.format; swaps = b.swaps; parts = counted b.parts p; states = b.states }

abbrev pub state_more : Body → Body
state_more b = record { format = b.format; swaps = b.swaps; parts = b.parts; states = b.states + 1 }

-- whether one more may follow: exchanges come before atoms, atoms before parts, and parts before states
abbrev pub swap_follows : Body → Bool
swap_follows b = (b.format.atoms == 0) && (how_many b.parts == 0) && (b.states == 0)

abbrev pub atom_follows : Body → Bool
atom_follows b = (how_many b.parts == 0) && (b.states == 0)

abbrev pub part_follows : Part → Body → Bool
part_follows p b = (b.states == 0) && may_follow b.parts p

-- and a state whose basis is given
abbrev pub state_follows : StateLine → Body → Bool
state_follows l b = has_basis b.parts.values l.mark

-- the state, if this holds
abbrev pub only_if : Bool → CertificatePlace → Option CertificatePlace
only_if holds place = if holds then Some place else None

-- the state after one more line; None if the line may not occur there
abbrev pub next_place : CertificatePlace → TextLine → Option CertificatePlace
next_place at_version (version v) = Some (at_claim v)
next_place (at_claim v) (claims claim) = only_if (is_line (no_format v) (claims claim)) (at_constant v)
next_place (at_constant v) (constant k) = only_if (is_line (no_format v) (constant k)) (in_body (no_body v (length k)))
next_place (in_body b) (swapped names) = only_if (swap_follows b && nat_lt b.swaps most_swaps && is_line b.format (swapped names)) (in_body (swap_more b))
next_place (in_body b) (atom a) = only_if (atom_follows b && nat_lt b.format.atoms most_atoms && is_line b.format (atom a)) (in_body (atom_more b))
next_place (in_body b) (part p) = only_if (part_follows p b && has_room b.parts p && is_line b.format (part p)) (in_body (part_more p b))
next_place (in_body b) (listed l) = only_if (state_follows l b && nat_lt b.states most_states && is_line b.format (listed l)) (in_body (state_more b))
next_place (in_body b) (last count) = only_if (count == b.states) ended
next_place _ _ = None

-- the state after these lines, from this one on
abbrev pub place_from : CertificatePlace → List TextLine → Option CertificatePlace
place_from place [] = Some place
place_from place (line ∷ lines) = option_and_then (λ next. place_from next lines) (next_place place line)

abbrev pub place_after : List TextLine → Option CertificatePlace
place_after lines = place_from at_version lines
