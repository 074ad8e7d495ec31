-- Tests of a certificate's exchanges, and of lines that may be long.
use Rattle.std.specs.Prelude.{nat_le, Bool, ◌&&◌, List, length}
use Rattle.std.specs.List.{list_all}
use Rattle.model.specs.Task.{Atom, Task}
use Rattle.symmetries_definitions.specs.Exchanges.{Exchange, objects_in}
use Rattle.symmetries_definitions.specs.Symmetries.{is_symmetry}
use Rattle.symmetries_definitions.specs.Orbits.{keeps_atoms}
use Rattle.certificate_definitions.specs.Certificates.{Certificate}
use Rattle.lower_bounds.specs.LandmarkLines.{Share, value}
use Rattle.certificate_definitions.specs.CertificateText.{swapped, landmark_line, part, line_text, longest_line}
use Rattle.certificate_definitions.specs.CertificateNames.{named_exchange}

-- Each number is that of an object of the task; the number of objects stands for none.
abbrev pub is_said : Task → Exchange → Bool
is_said task e = list_all (λ o. nat_le o (length task.objects)) (objects_in e)

-- it is a symmetry of the task and maps these atoms to these atoms
abbrev pub is_symmetry_by : Task → List Atom → Exchange → Bool
is_symmetry_by task atoms e = is_symmetry task e && keeps_atoms atoms e

-- the exchange's line is not too long, and that of the landmark value
abbrev pub is_short : Task → Exchange → Bool
is_short task e = nat_le (length (line_text (swapped (named_exchange task e)))) longest_line

abbrev pub is_short_value : List Share → Bool
is_short_value shares = nat_le (length (line_text (part (landmark_line (value shares))))) longest_line

-- no line is too long: those of atoms, tables, zones and states never are
abbrev pub are_short : Task → Certificate → Bool
are_short task c = list_all (is_short task) c.exchanges && list_all is_short_value c.landmarks.values
