-- The names of a certificate's atoms and exchanges, and the certificates of a task that a text denotes.
use Rattle.std.specs.Prelude.{◌≡◌, ℕ, suc, ◌-◌, ℤ, pos, Bool, ◌&&◌, nat_lt, List, [], ◌∷◌, ◌++◌, length, map, get_or, position, slice_get, Some}
use Rattle.std.specs.List.{flat_map, list_all, position_or_len, range_with_len}
use Rattle.std.specs.Option.{option_map_or}
use Rattle.model.specs.Task.{Name, Atom, Predicate, Task}
use Rattle.model.specs.WellTyped.{is_atom}
use Rattle.model.specs.Resolution.{is_same}
use Rattle.model.specs.PlanText.{object_names}
use Rattle.model.specs.PlanWriting.{object_name, are_lower_names}
use Rattle.certificate_definitions.specs.Certificates.{Version, one, two, three, four, Certificate}
use Rattle.lower_bounds.specs.LandmarkLines.{LandmarkLine, lines_of}
use Rattle.lower_bounds.specs.TableFunctions.{Table}
use Rattle.symmetries_definitions.specs.Exchanges.{Exchange, objects_in, are_different}
use Rattle.lower_bounds.specs.PotentialFunctions.{PotentialFunction}
use Rattle.certificate_definitions.specs.CertificateText.{NamedAtom, WeightedAtom, TableLine, scope, row, Part, tabled, landmark_line, NamedCertificate, IsCertificateText, text_lines, text_of}

abbrev pub predicate_names : Task → List Name
predicate_names task = map (λ (p : Predicate). p.name) task.predicates

-- the name of the predicate with this number; empty if there is none
abbrev pub predicate_name : Task → ℕ → Name
predicate_name task number = option_map_or (λ (p : Predicate). p.name) (slice_get task.predicates number) []

-- an atom by its names
abbrev pub named_atom : Task → Atom → NamedAtom
named_atom task a = record { predicate = predicate_name task a.predicate; objects = map (object_name task) a.objects }

-- the constants, or the weights of an atom, for values and for dead ends, as this version writes them
abbrev pub weights_in : Version → List ℤ → ℤ → List ℤ
weights_in one of_values of_dead_end = of_values
weights_in two of_values of_dead_end = of_values ++ of_dead_end ∷ []
weights_in three of_values of_dead_end = of_values ++ of_dead_end ∷ []
weights_in four of_values of_dead_end = of_values ++ of_dead_end ∷ []

abbrev pub constants_of : Certificate → List ℤ
constants_of c = weights_in c.version (map (λ (p : PotentialFunction). p.constant) c.values) c.dead_ends.constant

-- the weights of the atom at this index, from 0
abbrev pub weights_of_atom : Certificate → ℕ → List ℤ
weights_of_atom c place =
    weights_in c.version (map (λ (p : PotentialFunction). get_or p.weights place (pos 0)) c.values) (get_or c.dead_ends.weights place (pos 0))

-- atoms by name, each with its weights; the first is at this index
abbrev pub weighted_atoms : Task → Certificate → ℕ → List Atom → List WeightedAtom
weighted_atoms task c place [] = []
weighted_atoms task c place (a ∷ atoms) = record { weights = weights_of_atom c place; atom = named_atom task a } ∷ weighted_atoms task c (suc place) atoms

-- the lines of a table
abbrev pub table_lines : Table → List TableLine
table_lines t = scope t.scope ∷ map row t.rows

-- all parts of a certificate, in the order of their kinds
abbrev pub parts_of : Certificate → List Part
parts_of c = map (λ (t : TableLine). tabled t) (flat_map table_lines c.tables) ++ map (λ (l : LandmarkLine). landmark_line l) (lines_of c.landmarks)

-- the objects of an exchange by their names
abbrev pub named_exchange : Task → Exchange → List (List ℕ)
named_exchange task e = map (object_name task) (objects_in e)

-- a certificate, with its atoms and exchanged objects by name
abbrev pub named : Task → Certificate → NamedCertificate
named task c = record {
  version = c.version;
  claim = c.claim;
  constants = constants_of c;
  swaps = map (named_exchange task) c.exchanges;
  atoms = weighted_atoms task c 0 c.atoms;
  parts = parts_of c;
  lines = c.lines;
}

-- the written text of a certificate
abbrev pub certificate_text : Task → Certificate → List ℕ
certificate_text task c = text_of (text_lines (named task c))

-- ---- what a text says about a task

-- the name has this number
abbrev pub IsNumberOf : List Name → Name → ℕ → Type 0
IsNumberOf names name number = position (is_same name) names ≡ Some number

abbrev pub AreNumbersOf : List Name → List Name → List ℕ → Type 0
AreNumbersOf names these numbers = map (λ (name : Name). position (is_same name) names) these ≡ map (λ (n : ℕ). Some n) numbers

-- the names are those of this atom's predicate and objects
pub record Names (task : Task) (name : NamedAtom) (a : Atom) : Type 0 where
  pub predicate : IsNumberOf (predicate_names task) name.predicate a.predicate
  pub objects : AreNumbersOf (object_names task) name.objects a.objects

-- the names denote these atoms, one for one
abbrev pub AllName : Task → List NamedAtom → List Atom → Type 0
AllName task [] [] = Unit {0}
AllName task [] (a ∷ atoms) = ⊥
AllName task (name ∷ names) [] = ⊥
AllName task (name ∷ names) (a ∷ atoms) = Names task name a × AllName task names atoms

-- the number of the object with this name; for an unknown name the number of objects, which is no object's number
abbrev pub object_said : Task → List ℕ → ℕ
object_said task name = position_or_len (is_same name) (object_names task)

-- these in pairs
abbrev pub two_by_two : List ℕ → List (ℕ × ℕ)
two_by_two [] = []
two_by_two (last ∷ []) = []
two_by_two (first ∷ second ∷ rest) = (first, second) ∷ two_by_two rest

-- the exchange of the objects with these names
abbrev pub exchange_said : Task → List (List ℕ) → Exchange
exchange_said task names = two_by_two (map (object_said task) names)

-- the weight at this index; 0 if none is written
abbrev pub weight_said : ℕ → List ℤ → ℤ
weight_said place weights = get_or weights place (pos 0)

-- what a text says about the value at this index, from 0
abbrev pub value_said : NamedCertificate → ℕ → PotentialFunction
value_said said place = record { constant = weight_said place said.constants; weights = map (λ (a : WeightedAtom). weight_said place a.weights) said.atoms }

-- the number of these constants that belong to values: version 1 has none for dead ends
abbrev pub value_count : Version → ℕ → ℕ
value_count one count = count
value_count two count = count - 1
value_count three count = count - 1
value_count four count = count - 1

-- what it says about all values, and about dead ends, with 0 for what version 1 does not write
abbrev pub values_said : NamedCertificate → List PotentialFunction
values_said said = map (value_said said) (range_with_len 0 (value_count said.version (length said.constants)))

abbrev pub dead_ends_said : NamedCertificate → PotentialFunction
dead_ends_said said = value_said said (value_count said.version (length said.constants))

-- The text denotes this certificate of the task.
pub record IsTextOf (task : Task) (bytes : List ℕ) (c : Certificate) : Type 0 where
  pub said : NamedCertificate
  pub text : IsCertificateText bytes said
  pub version : said.version ≡ c.version
  pub claim : said.claim ≡ c.claim
  pub exchanges : c.exchanges ≡ map (exchange_said task) said.swaps
  pub atoms : AllName task (map (λ (a : WeightedAtom). a.atom) said.atoms) c.atoms
  pub values : c.values ≡ values_said said
  pub dead_ends : c.dead_ends ≡ dead_ends_said said
  pub parts : said.parts ≡ parts_of c
  pub lines : said.lines ≡ c.lines

-- ---- certificates that can be written

-- predicates and objects have distinct names, in lower case, each of at most 255 bytes, as in files
abbrev pub has_atom_names : Task → Bool
has_atom_names task = are_lower_names (predicate_names task) && are_lower_names (object_names task)

-- the objects of an exchange belong to the task and are all different
abbrev pub is_exchange_of : Task → Exchange → Bool
is_exchange_of task e = list_all (λ o. nat_lt o (length task.objects)) (objects_in e) && are_different (objects_in e)

abbrev pub are_exchanges_of : Task → Certificate → Bool
are_exchanges_of task c = list_all (is_exchange_of task) c.exchanges

-- each atom is well-typed, so that its names are those of the task
abbrev pub are_atoms_of : Task → Certificate → Bool
are_atoms_of task c = list_all (is_atom task) c.atoms
