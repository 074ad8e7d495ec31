-- The contents of the lines of a certificate's text, one after another.
use Rattle.std.specs.Prelude.{ℕ, List, Option, None, Some}
use Rattle.std.specs.List.{filter_map}
use Rattle.certificate_definitions.specs.Certificates.{StateLine}
use Rattle.certificate_definitions.specs.CertificateText.{WeightedAtom, Part, TextLine, version, claims, constant, swapped, atom, part, listed, last}

-- the names of an exchange in the line, the atom with its weights, the part, and the state that it lists
abbrev pub swap_in : TextLine → Option (List (List ℕ))
swap_in (version v) = None
swap_in (claims claim) = None
swap_in (constant k) = None
swap_in (swapped names) = Some names
swap_in (atom a) = None
swap_in (part p) = None
swap_in (listed l) = None
swap_in (last count) = None

abbrev pub atom_in : TextLine → Option WeightedAtom
atom_in (version v) = None
atom_in (claims claim) = None
atom_in (constant k) = None
atom_in (swapped names) = None
atom_in (atom a) = Some a
atom_in (part p) = None
atom_in (listed l) = None
atom_in (last count) = None

abbrev pub part_in : TextLine → Option Part
part_in (version v) = None
part_in (claims claim) = None
part_in (constant k) = None
part_in (swapped names) = None
part_in (atom a) = None
part_in (part p) = Some p
part_in (listed l) = None
part_in (last count) = None

abbrev pub state_in : TextLine → Option StateLine
state_in (version v) = None
state_in (claims claim) = None
state_in (constant k) = None
state_in (swapped names) = None
state_in (atom a) = None
state_in (part p) = None
state_in (listed l) = Some l
state_in (last count) = None

-- the contents of the lines, in order
abbrev pub swaps_given : List TextLine → List (List (List ℕ))
swaps_given lines = filter_map swap_in lines

abbrev pub atoms_given : List TextLine → List WeightedAtom
atoms_given lines = filter_map atom_in lines

abbrev pub parts_given : List TextLine → List Part
parts_given lines = filter_map part_in lines

abbrev pub states_given : List TextLine → List StateLine
states_given lines = filter_map state_in lines
