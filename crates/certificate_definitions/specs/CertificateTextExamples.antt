-- Worked examples of lines of certificate texts: where each may occur, and the faults of others. Each is chosen to expose a wrong
-- reading.
use Rattle.std.specs.Prelude.{◌≡◌, ℕ, ℤ, pos, false, true, List, [], ◌∷◌, ◌++◌, codes, Option, None, Some}
use Rattle.model.specs.Examples.{tie_task}
use Rattle.model.specs.Claims.{bound}
use Rattle.lower_bounds.specs.PotentialExamples.{potentials, minus}
use Rattle.lower_bounds.specs.LandmarkLines.{zone, value, share, zone_of}
use Rattle.certificate_definitions.specs.Evidence.{landmark, cut}
use Rattle.certificate_definitions.specs.Certificates.{Version, one, two, three, four, Certificate, StateLine, keeps_limits, no_landmarks}
use Rattle.certificate_definitions.specs.CertificateText.{WeightedAtom, scope, row, tabled, landmark_line, no_parts, TextLine, version, claims, constant, swapped, atom, part, listed, last, NamedCertificate}
use Rattle.certificate_definitions.specs.CertificateMachine.{CertificatePlace, in_body, ended, place_from, place_after}
use Rattle.certificate_definitions.specs.CertificateNames.{parts_of, values_said, dead_ends_said, exchange_said, named_exchange}
use Rattle.certificate_definitions.specs.CertificateChecking.{IsWrongAfter}
use Rattle.certificate_definitions.specs.CertificateExamples.{expanded_at, linked, tied}
use Rattle.symmetries_definitions.specs.SymmetryExamples.{gripper}

abbrev pub weighs : List ℤ → (name : List ℕ) → WeightedAtom
weighs weights name = record { weights = weights; atom = record { predicate = name; objects = [] } }

abbrev pub zeros : List ℤ
zeros = pos 0 ∷ pos 0 ∷ pos 0 ∷ []

-- the line of a row with these atoms
abbrev pub row_line : List ℤ → List ℕ → TextLine
row_line weights atoms = part (tabled (row (record { atoms = atoms; weights = weights })))

-- the first lines of a text of version 3 with two values
abbrev pub first_lines : List TextLine
first_lines = version three ∷ claims (bound 2) ∷ constant (pos 2 ∷ pos 1 ∷ pos 0 ∷ []) ∷ atom (weighs zeros (codes "p")) ∷ atom (weighs zeros (codes "q")) ∷ []

-- the lines of its single table, over both atoms: one row where none is true, and one where both are
abbrev pub table_lines_of_both : List TextLine
table_lines_of_both = part (tabled (scope (0 ∷ 1 ∷ []))) ∷ row_line zeros [] ∷ row_line (minus 2 ∷ pos 0 ∷ pos 1 ∷ []) (0 ∷ 1 ∷ []) ∷ []

abbrev pub last_lines : List TextLine
last_lines = listed (expanded_at 0 []) ∷ last 1 ∷ []

-- a certificate with one table over both atoms, which has a row with these weights and atoms
abbrev pub with_row : Version → List ℤ → List ℕ → Certificate
with_row v weights atoms = record {
  version = v;
  claim = bound 0;
  exchanges = [];
  atoms = linked ∷ tied ∷ [];
  values = potentials (pos 0) (pos 0 ∷ pos 0 ∷ []) ∷ [];
  dead_ends = potentials (pos 0) (pos 0 ∷ pos 0 ∷ []);
  tables = record { scope = 1 ∷ []; rows = record { atoms = atoms; weights = weights } ∷ [] } ∷ [];
  landmarks = no_landmarks;
  lines = [];
}

-- what a text with one atom says about values and dead ends
abbrev pub said_of : Version → (constants weights : List ℤ) → NamedCertificate
said_of v constants weights = record { version = v; claim = bound 0; constants = constants; swaps = []; atoms = weighs weights (codes "p") ∷ []; parts = []; lines = [] }

-- the state after these lines, in a text of this version with this many constants, after two atoms
abbrev pub after_atoms : Version → ℕ → List TextLine → Option CertificatePlace
after_atoms v weights = place_from (in_body (record { format = record { version = v; weights = weights; atoms = 2 }; swaps = 0; parts = no_parts; states = 0 }))

-- the state after these lines, in a text of this version, after its constants
abbrev pub after_constants : Version → List TextLine → Option CertificatePlace
after_constants v = place_from (in_body (record { format = record { version = v; weights = 2; atoms = 0 }; swaps = 0; parts = no_parts; states = 0 }))

-- a zone with the first atom, a landmark value over the zone with this number, and a state that is not expanded by the value with this
-- number: its cost is 3, and the bound 2
abbrev pub zone_line : TextLine
zone_line = part (landmark_line (zone (zone_of (0 ∷ []) [])))

abbrev pub marks_line : ℕ → TextLine
marks_line number = part (landmark_line (value (share number 2 ∷ [])))

abbrev pub cut_by : ℕ → StateLine
cut_by number = record { cost = 3; mark = cut (landmark number) 2; atoms = 1 ∷ [] }

-- a certificate with one landmark value over one zone, and this cut
abbrev pub with_cut_by : Version → ℕ → Certificate
with_cut_by v number = record {
  version = v;
  claim = bound 0;
  exchanges = [];
  atoms = linked ∷ tied ∷ [];
  values = potentials (pos 0) (pos 0 ∷ pos 0 ∷ []) ∷ [];
  dead_ends = potentials (pos 0) (pos 0 ∷ pos 0 ∷ []);
  tables = [];
  landmarks = record { zones = zone_of (0 ∷ []) [] ∷ []; values = (share 0 2 ∷ []) ∷ [] };
  lines = cut_by number ∷ [];
}

pub record AreTextsJudged : Type 0 where
  -- Atoms come before tables, each table before its rows, and all of them before states.
  pub whole : after_atoms three 3 (table_lines_of_both ++ last_lines) ≡ Some ended
  pub without_tables : after_atoms three 3 (last_lines) ≡ Some ended
  pub row_first : after_atoms three 3 (row_line zeros [] ∷ []) ≡ None
  pub atom_after_a_table : after_atoms three 3 (table_lines_of_both ++ atom (weighs zeros (codes "r")) ∷ []) ≡ None
  pub row_after_a_state : after_atoms three 3 (table_lines_of_both ++ listed (expanded_at 0 []) ∷ row_line zeros (0 ∷ []) ∷ []) ≡ None
  pub table_after_a_state : after_atoms three 3 (listed (expanded_at 0 []) ∷ part (tabled (scope (0 ∷ []))) ∷ []) ≡ None
  -- A scope has at least one atom, and its numbers ascend and are those of atoms; the same holds for a row, which has one weight
  -- for each constant.
  pub empty_scope : after_atoms three 3 (part (tabled (scope [])) ∷ []) ≡ None
  pub numbers_rise : after_atoms three 3 (part (tabled (scope (1 ∷ 0 ∷ []))) ∷ []) ≡ None
  pub another_number : after_atoms three 3 (part (tabled (scope (2 ∷ []))) ∷ []) ≡ None
  pub weight_missing : after_atoms three 3 (part (tabled (scope (0 ∷ []))) ∷ row_line (pos 0 ∷ pos 0 ∷ []) [] ∷ []) ≡ None
  -- Version 3 has at least two constants, and version 2 exactly two; versions 1 and 2 have no tables.
  pub one_constant : place_after (version three ∷ claims (bound 2) ∷ constant (pos 2 ∷ []) ∷ []) ≡ None
  pub three_in_version_2 : place_after (version two ∷ claims (bound 2) ∷ constant zeros ∷ []) ≡ None
  pub table_in_version_2 : after_atoms two 2 (part (tabled (scope (0 ∷ []))) ∷ []) ≡ None
  -- Exchanges come right after the constants.
  pub exchanges : after_constants three (swapped (codes "a" ∷ codes "b" ∷ []) ∷ swapped (codes "b" ∷ codes "c" ∷ codes "d" ∷ codes "a" ∷ []) ∷ last_lines) ≡ Some ended
  pub exchange_after_atoms : after_atoms three 2 (swapped (codes "a" ∷ codes "b" ∷ []) ∷ []) ≡ None
  pub exchange_after_a_state : after_constants three (listed (expanded_at 0 []) ∷ swapped (codes "a" ∷ codes "b" ∷ []) ∷ []) ≡ None
  pub exchange_in_version_1 : after_constants one (swapped (codes "a" ∷ codes "b" ∷ []) ∷ []) ≡ None
  pub exchange_in_version_2 : after_constants two (swapped (codes "a" ∷ codes "b" ∷ []) ∷ []) ≡ None
  -- The names of an exchange are at least two, even in number, and all different.
  pub no_names : after_constants three (swapped [] ∷ []) ≡ None
  pub one_left_over : after_constants three (swapped (codes "a" ∷ codes "b" ∷ codes "c" ∷ []) ∷ []) ≡ None
  pub name_twice : after_constants three (swapped (codes "a" ∷ codes "b" ∷ codes "c" ∷ codes "a" ∷ []) ∷ []) ≡ None
  pub capital_letter : after_constants three (swapped (codes "a" ∷ codes "B" ∷ []) ∷ []) ≡ None
  -- An unknown name gives a number that is no object's.
  pub exchange_of_balls : exchange_said gripper (codes "ball2" ∷ codes "ball1" ∷ codes "left" ∷ codes "right" ∷ []) ≡ (3, 2) ∷ (4, 5) ∷ []
  pub exchange_of_none : exchange_said gripper (codes "ball1" ∷ codes "ball3" ∷ []) ≡ (2, 6) ∷ []
  pub exchange_is_written : named_exchange gripper ((3, 2) ∷ (4, 5) ∷ []) ≡ codes "ball2" ∷ codes "ball1" ∷ codes "left" ∷ codes "right" ∷ []
  -- The atoms of a row are in its table's scope.
  pub row_of_scope : keeps_limits (with_row three (pos 0 ∷ pos 0 ∷ []) (1 ∷ [])) ≡ true
  pub row_of_others : keeps_limits (with_row three (pos 0 ∷ pos 0 ∷ []) (0 ∷ [])) ≡ false
  pub row_without_weights : keeps_limits (with_row three (pos 0 ∷ []) (1 ∷ [])) ≡ false
  pub tables_of_version_2 : keeps_limits (with_row two (pos 0 ∷ pos 0 ∷ []) (1 ∷ [])) ≡ false
  -- The last of several weights is that for dead ends; version 1 writes none.
  pub values_of_version_1 : values_said (said_of one (pos 3 ∷ []) (pos 4 ∷ [])) ≡ potentials (pos 3) (pos 4 ∷ []) ∷ []
  pub dead_ends_of_version_1 : dead_ends_said (said_of one (pos 3 ∷ []) (pos 4 ∷ [])) ≡ potentials (pos 0) (pos 0 ∷ [])
  pub values_of_version_3 : values_said (said_of three (pos 3 ∷ pos 5 ∷ pos 7 ∷ []) (pos 4 ∷ pos 6 ∷ pos 8 ∷ [])) ≡ potentials (pos 3) (pos 4 ∷ []) ∷ potentials (pos 5) (pos 6 ∷ []) ∷ []
  pub dead_ends_of_version_3 : dead_ends_said (said_of three (pos 3 ∷ pos 5 ∷ pos 7 ∷ []) (pos 4 ∷ pos 6 ∷ pos 8 ∷ [])) ≡ potentials (pos 7) (pos 8 ∷ [])
  -- A row belongs to the last scope before it and occurs once in its table, whatever its weights; another table may have the same
  -- row.
  pub row_of_another_scope : IsWrongAfter tie_task (first_lines ++ part (tabled (scope (1 ∷ []))) ∷ part (tabled (scope (0 ∷ []))) ∷ []) (row_line zeros (1 ∷ [])) 40
  pub row_twice : IsWrongAfter tie_task (first_lines ++ table_lines_of_both) (row_line zeros (0 ∷ 1 ∷ [])) 44
  -- Version 4: zones come after tables and before landmark values, and a value's zones, as the value of a line, before it.
  pub landmarks : after_atoms four 3 (table_lines_of_both ++ zone_line ∷ marks_line 0 ∷ marks_line 0 ∷ listed (cut_by 1) ∷ last 1 ∷ []) ≡ Some ended
  pub table_after_a_zone : after_atoms four 3 (zone_line ∷ part (tabled (scope (0 ∷ []))) ∷ []) ≡ None
  pub row_after_a_zone : after_atoms four 3 (part (tabled (scope (0 ∷ []))) ∷ zone_line ∷ row_line zeros [] ∷ []) ≡ None
  pub zone_after_a_value : after_atoms four 3 (zone_line ∷ marks_line 0 ∷ zone_line ∷ []) ≡ None
  pub value_without_its_zone : after_atoms four 3 (zone_line ∷ marks_line 1 ∷ []) ≡ None
  pub atom_after_a_zone : after_atoms four 3 (zone_line ∷ atom (weighs zeros (codes "r")) ∷ []) ≡ None
  pub cut_by_no_value : after_atoms four 3 (zone_line ∷ marks_line 0 ∷ listed (cut_by 1) ∷ []) ≡ None
  pub zone_in_version_3 : after_atoms three 3 (zone_line ∷ []) ≡ None
  pub cut_by_in_version_3 : after_atoms three 3 (listed (cut_by 0) ∷ []) ≡ None
  pub cut_by_of_version_4 : keeps_limits (with_cut_by four 0) ≡ true
  pub cut_by_of_another_value : keeps_limits (with_cut_by four 1) ≡ false
  pub cut_by_of_version_3 : keeps_limits (with_cut_by three 0) ≡ false
  pub landmarks_in_lines : parts_of (with_cut_by four 0) ≡ landmark_line (zone (zone_of (0 ∷ []) [])) ∷ landmark_line (value (share 0 2 ∷ [])) ∷ []
