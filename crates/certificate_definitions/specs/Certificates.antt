-- Certificates, and when they are closed for a task.
use Rattle.std.specs.Prelude.{◌≡◌, ◌≢◌, ℕ, zero, ◌+◌, ◌==◌, ◌≤◌, Bool, true, false, ◌&&◌, ◌||◌, Option, None, Some, nat_lt, nat_le, ℤ, pos, negsuc, IsTrue, List, [], ◌++◌, map, length, get_or, All, AllPairs, slice_get}
use Rattle.std.specs.List.{list_all, filter_map, flat_map}
use Rattle.std.specs.FinSet.{from_list}
use Rattle.model.specs.Task.{Atom, Task}
use Rattle.model.specs.WellTyped.{is_atom}
pub use Rattle.model.specs.Fluents.{is_literal_of, touches, any_touches, is_fluent, static_atoms}
use Rattle.model.specs.Meaning.{State, system_of}
use Rattle.model.specs.NumberedAtoms.{numbered_atoms}
use Rattle.model.specs.Claims.{Claim, bound, none, Line, IsClosed}
use Rattle.lower_bounds.specs.PotentialFunctions.{PotentialFunction, value_of_state, is_dead_state}
use Rattle.lower_bounds.specs.FairPotentials.{AreFair, AreDeadFair}
use Rattle.lower_bounds.specs.TableFunctions as tables
use Rattle.lower_bounds.specs.TableFunctions.{Row, Table, SeveralValues, functions_of, dead_ends_of, greatest_of_state, is_among}
use Rattle.lower_bounds.specs.FairTables as fair_tables
use Rattle.symmetries_definitions.specs.Exchanges.{Exchange}
use Rattle.certificate_definitions.specs.Evidence.{Basis, of_all, landmark, LineMark, expanded, cut, dead, bare}
use Rattle.lower_bounds.specs.LandmarkFunctions as landmarks
use Rattle.lower_bounds.specs.LandmarkFunctions.{LandmarkFunction}
use Rattle.lower_bounds.specs.LandmarkLines.{NumberedLandmarks, functions_of as landmark_functions, keep_limits, most_values}
pub use Rattle.lower_bounds.specs.LandmarkLines.{rise}
use Rattle.lower_bounds.specs.FairLandmarks.{IsFair, IsDeadFair}
use Rattle.symmetries_definitions.specs.Symmetries.{is_symmetry}
use Rattle.symmetries_definitions.specs.Orbits.{AreAlike, keeps_atoms}

-- The versions of a certificate's text. From version 2 on, states may be listed as dead ends. In version 3 a state may have
-- several values, these may use tables, and a state may represent all states that exchanges of objects map to it. In version 4 a
-- cut or a dead end may rest on a landmark value of its own.
pub data Version : Type 0 where
  one : Version
  two : Version
  three : Version
  four : Version

-- A state line: its cost, its role with what it rests on, and its atoms by number, that is, by index from 0 among the certificate's atoms.
pub record StateLine : Type 0 where
  pub cost : ℕ
  pub mark : LineMark
  pub atoms : List ℕ

-- A claim with its evidence: values that are lower bounds, whose maximum counts, one that detects dead ends, and a listing of
-- states. Each has weights for the atoms, one for one, and a row of a table has one for each value and, last, one for dead ends.
-- Versions 1 and 2 have one value, a potential function, and no tables. And they have no exchanges of objects, by which a state
-- represents others. Versions 1 to 3 have no landmark values, which count only for the lines that name them.
pub record Certificate : Type 0 where
  pub version : Version
  pub claim : Claim
  pub exchanges : List Exchange
  pub atoms : List Atom
  pub values : List PotentialFunction
  pub dead_ends : PotentialFunction
  pub tables : List Table
  pub landmarks : NumberedLandmarks
  pub lines : List StateLine

-- the first value, the only one in versions 1 and 2; 0 if there is none
abbrev pub potentials_of : Certificate → PotentialFunction
potentials_of certificate = get_or certificate.values 0 (record { constant = pos 0; weights = [] })

abbrev pub several_of : Certificate → SeveralValues
several_of certificate = record { values = certificate.values; dead_ends = certificate.dead_ends; tables = certificate.tables }

-- no landmark values
abbrev pub no_landmarks : NumberedLandmarks
no_landmarks = record { zones = []; values = [] }

-- ---- limits

-- a number that may occur in a certificate's text: below 2 to the power 60
abbrev pub is_number : ℕ → Bool
is_number n = nat_lt n 1152921504606846976

-- a constant or a weight that may occur in a certificate's text: at most 2147483647 in absolute value
abbrev pub is_weight : ℤ → Bool
is_weight (pos n) = nat_le n 2147483647
is_weight (negsuc n) = nat_lt n 2147483647

abbrev pub is_claim : Claim → Bool
is_claim (bound least) = is_number least
is_claim none = true

-- landmark values are those of version 4
abbrev pub has_landmarks : Version → Bool
has_landmarks one = false
has_landmarks two = false
has_landmarks three = false
has_landmarks four = true

abbrev pub is_basis : Version → Basis → Bool
is_basis version of_all = true
is_basis version (landmark number) = has_landmarks version && nat_lt number most_values

-- version 1 has no dead ends
abbrev pub is_mark : Version → LineMark → Bool
is_mark version expanded = true
is_mark version (cut basis rest) = is_basis version basis && is_number rest
is_mark one (dead basis) = false
is_mark two (dead basis) = is_basis two basis
is_mark three (dead basis) = is_basis three basis
is_mark four (dead basis) = is_basis four basis

-- of this many landmark values, there is the one that the line rests on
abbrev pub has_basis : ℕ → LineMark → Bool
has_basis count expanded = true
has_basis count (cut of_all rest) = true
has_basis count (cut (landmark number) rest) = nat_lt number count
has_basis count (dead of_all) = true
has_basis count (dead (landmark number)) = nat_lt number count

abbrev pub is_state_line : Version → ℕ → StateLine → Bool
is_state_line version atom_count line = is_number line.cost && is_mark version line.mark && rise atom_count 0 line.atoms

-- a constant or a weight for dead ends, which is 0 in version 1
abbrev pub is_dead_end_weight : Version → ℤ → Bool
is_dead_end_weight one (pos zero) = true
is_dead_end_weight one _ = false
is_dead_end_weight two w = is_weight w
is_dead_end_weight three w = is_weight w
is_dead_end_weight four w = is_weight w

-- a constant, and a weight for each of this many atoms, all of which satisfy this
abbrev pub are_potentials : (ℤ → Bool) → ℕ → PotentialFunction → Bool
are_potentials is_in_range atom_count p = is_in_range p.constant && (length p.weights == atom_count) && list_all is_in_range p.weights

-- versions 1 and 2 have one value, versions 3 and 4 up to 32
abbrev pub is_value_count : Version → ℕ → Bool
is_value_count one count = count == 1
is_value_count two count = count == 1
is_value_count three count = nat_le 1 count && nat_le count 32
is_value_count four count = nat_le 1 count && nat_le count 32

-- this many constants or weights, each within its limits
abbrev pub are_weights : ℕ → List ℤ → Bool
are_weights count weights = (length weights == count) && list_all is_weight weights

-- a row of a table with this scope: its atoms are in the scope
abbrev pub is_row : (atom_count weight_count : ℕ) → List ℕ → Row → Bool
is_row atom_count weight_count scope r = are_weights weight_count r.weights && rise atom_count 0 r.atoms && list_all (is_among scope) r.atoms

-- the scope has at least one atom, and a table may have any rows
abbrev pub is_table : (atom_count weight_count : ℕ) → Table → Bool
is_table atom_count weight_count t = rise atom_count 0 t.scope && nat_le 1 (length t.scope) && list_all (is_row atom_count weight_count t.scope) t.rows

-- versions 1 and 2 have no tables
abbrev pub has_tables : Version → Bool
has_tables one = false
has_tables two = false
has_tables three = true
has_tables four = true

abbrev pub are_tables : Version → (atom_count weight_count : ℕ) → List Table → Bool
are_tables version atom_count weight_count = list_all (λ t. has_tables version && is_table atom_count weight_count t)

-- versions 1 and 2 have no exchanges
abbrev pub has_exchanges : Version → Bool
has_exchanges one = false
has_exchanges two = false
has_exchanges three = true
has_exchanges four = true

-- an exchange has at least one pair of objects
abbrev pub are_exchanges : Version → List Exchange → Bool
are_exchanges version = list_all (λ e. has_exchanges version && nat_le 1 (length e))

-- versions 1 to 3 have no landmark values
abbrev pub are_landmarks : Version → ℕ → NumberedLandmarks → Bool
are_landmarks version atom_count l = (has_landmarks version || (nat_le (length l.zones) 0 && nat_le (length l.values) 0)) && keep_limits atom_count l

-- the rows of all tables
abbrev pub rows_of : List Table → List Row
rows_of = flat_map (λ (t : Table). t.rows)

-- the certificate is within the limits of a certificate's text, and each state's atoms are in ascending order
abbrev pub keeps_limits : Certificate → Bool
keeps_limits c =
    is_claim c.claim && nat_le (length c.atoms) 1048576 && nat_le (length c.lines) 16777216 && list_all (is_state_line c.version (length c.atoms)) c.lines
    && is_value_count c.version (length c.values) && list_all (are_potentials is_weight (length c.atoms)) c.values
    && are_potentials (is_dead_end_weight c.version) (length c.atoms) c.dead_ends
    && are_tables c.version (length c.atoms) (length c.values + 1) c.tables && nat_le (length c.tables) 4194304 && nat_le (length (rows_of c.tables)) 4194304
    && are_exchanges c.version c.exchanges && nat_le (length c.exchanges) 1048576
    && are_landmarks c.version (length c.atoms) c.landmarks && list_all (λ (l : StateLine). has_basis (length c.landmarks.values) l.mark) c.lines

-- ---- listings

-- the state that a line lists: its atoms and the initial static ones
abbrev pub state_of_line : Task → Certificate → StateLine → State
state_of_line task certificate line = from_list (filter_map (slice_get certificate.atoms) line.atoms ++ static_atoms task)

-- the certificate's listing
abbrev pub lines_of : Task → Certificate → List (Line State)
lines_of task certificate =
    map (λ (l : StateLine). record { state = state_of_line task certificate l; cost = l.cost; mark = bare l.mark }) certificate.lines

-- ---- exchanges

-- the exchange is a symmetry of the task, and the image of each numbered atom is numbered
abbrev pub is_symmetry_for : Task → Certificate → Exchange → Bool
is_symmetry_for task c exchange = is_symmetry task exchange && keeps_atoms (numbered_atoms task c.atoms) exchange

-- The states are in the same class by the certificate's exchanges: their representatives are equal, if the certificate's atoms
-- have the first numbers. Without exchanges, classes are singletons.
abbrev pub AreAlikeFor : Task → Certificate → State → State → Type 0
AreAlikeFor task c = AreAlike (numbered_atoms task c.atoms) c.exchanges

-- ---- values of states

-- The value that the certificate gives a state: in versions 1 and 2 that of its potential function, to which an atom without a
-- number contributes nothing, and from version 3 on the maximum of its values.
abbrev pub value_in : Version → Task → Certificate → State → ℕ
value_in one task c state = value_of_state c.atoms (potentials_of c) state
value_in two task c state = value_of_state c.atoms (potentials_of c) state
value_in three task c state = greatest_of_state task (numbered_atoms task c.atoms) (functions_of (several_of c)) state
value_in four task c state = greatest_of_state task (numbered_atoms task c.atoms) (functions_of (several_of c)) state

abbrev pub value_of : Task → Certificate → State → ℕ
value_of task c = value_in c.version task c

-- the certificate's values show that the state is a dead end
abbrev pub is_dead_end_in : Version → Task → Certificate → State → Bool
is_dead_end_in one task c state = is_dead_state c.atoms c.dead_ends state
is_dead_end_in two task c state = is_dead_state c.atoms c.dead_ends state
is_dead_end_in three task c state = tables.is_dead_state task (numbered_atoms task c.atoms) (dead_ends_of (several_of c)) state
is_dead_end_in four task c state = tables.is_dead_state task (numbered_atoms task c.atoms) (dead_ends_of (several_of c)) state

abbrev pub is_dead_end_of : Task → Certificate → State → Bool
is_dead_end_of task c = is_dead_end_in c.version task c

-- ---- what lines rest on

-- the landmark value with this number, over the certificate's tables
abbrev pub landmark_function : Certificate → ℕ → LandmarkFunction
landmark_function c number = get_or (landmark_functions c.tables c.landmarks) number (record { landmarks = []; tables = c.tables })

-- the value of a state by this basis, a lower bound of the remaining cost
abbrev pub value_by : Task → Certificate → Basis → State → ℕ
value_by task c of_all = value_of task c
value_by task c (landmark number) = landmarks.value_of_state task (numbered_atoms task c.atoms) (landmark_function c number)

-- the basis shows that the state is a dead end: a landmark value that is dead-fair does where it is not 0
abbrev pub is_dead_end_by : Task → Certificate → Basis → State → Bool
is_dead_end_by task c of_all = is_dead_end_of task c
is_dead_end_by task c (landmark number) = λ state. nat_le 1 (landmarks.value_of_state task (numbered_atoms task c.atoms) (landmark_function c number) state)

-- what the mark says of the state rests on its basis: the cost that a cut says is still to pay is at most the value of the state, and a
-- dead end is shown to be one
abbrev pub IsSupported : Task → Certificate → State → LineMark → Type 0
IsSupported task c state expanded = Unit {0}
IsSupported task c state (cut basis rest) = rest ≤ value_by task c basis state
IsSupported task c state (dead basis) = IsTrue (is_dead_end_by task c basis state)

-- ---- closed certificates

-- the potential functions of versions 1 and 2 are fair and dead-fair for the ground task in which the certificate's atoms have
-- the first numbers
pub record ArePotentialsFair (task : Task) (c : Certificate) : Type 0 where
  pub values : AreFair task (numbered_atoms task c.atoms) (potentials_of c)
  pub dead_ends : AreDeadFair task (numbered_atoms task c.atoms) c.dead_ends

-- the landmark values that dead ends rest on
abbrev pub is_dead_by_landmark : LineMark → Option ℕ
is_dead_by_landmark expanded = None
is_dead_by_landmark (cut basis rest) = None
is_dead_by_landmark (dead of_all) = None
is_dead_by_landmark (dead (landmark number)) = Some number

abbrev pub dead_by : Certificate → List ℕ
dead_by c = filter_map (λ (l : StateLine). is_dead_by_landmark l.mark) c.lines

-- each landmark value is fair, and each that a dead end rests on is dead-fair
pub record AreLandmarksFair (task : Task) (c : Certificate) : Type 0 where
  pub values : All (IsFair task (numbered_atoms task c.atoms)) (landmark_functions c.tables c.landmarks)
  pub dead_ends : All (λ (number : ℕ). IsDeadFair task (numbered_atoms task c.atoms) (landmark_function c number)) (dead_by c)

-- each value of versions 3 and 4 is fair, and that for dead ends is dead-fair
abbrev pub AreFairIn : Version → Task → Certificate → Type 0
AreFairIn one task c = ArePotentialsFair task c
AreFairIn two task c = ArePotentialsFair task c
AreFairIn three task c = fair_tables.AreFair task (numbered_atoms task c.atoms) (several_of c)
AreFairIn four task c = fair_tables.AreFair task (numbered_atoms task c.atoms) (several_of c)

abbrev pub AreFairFor : Task → Certificate → Type 0
AreFairFor task c = AreFairIn c.version task c

-- Its exchanges are symmetries of the task, its values, which have a weight for each of its atoms, are fair, the one for dead
-- ends is dead-fair, so are its landmark values, its listing is closed up to the exchanges, and what its lines say rests on their bases.
pub record IsClosedFor (task : Task) (certificate : Certificate) : Type 0 where
  pub as_many_values : IsTrue (is_value_count certificate.version (length certificate.values))
  pub one_weight_an_atom : All (λ (p : PotentialFunction). length p.weights ≡ length certificate.atoms) certificate.values
  pub one_dead_end_weight_an_atom : length certificate.dead_ends.weights ≡ length certificate.atoms
  pub tables_are_over_atoms : IsTrue (are_tables certificate.version (length certificate.atoms) (length certificate.values + 1) certificate.tables)
  pub exchanges_are_symmetries : All (λ (e : Exchange). IsTrue (is_symmetry_for task certificate e)) certificate.exchanges
  pub landmarks_are_over_atoms : IsTrue (are_landmarks certificate.version (length certificate.atoms) certificate.landmarks)
  pub are_fair : AreFairFor task certificate
  pub landmarks_are_fair : AreLandmarksFair task certificate
  pub atoms_are_fluent : All (λ (a : Atom). IsTrue (is_atom task a && is_fluent task a.predicate)) certificate.atoms
  pub atoms_are_distinct : AllPairs (λ (a b : Atom). a ≢ b) certificate.atoms
  pub rows_are_distinct : All (λ (t : Table). AllPairs (λ (q r : Row). q.atoms ≢ r.atoms) t.rows) certificate.tables
  pub states_are_distinct : AllPairs (λ (k l : Line State). k.state ≢ l.state) (lines_of task certificate)
  pub listing_is_closed : IsClosed (system_of task) (AreAlikeFor task certificate) certificate.claim (lines_of task certificate)
  pub lines_are_supported : All (λ (l : StateLine). IsSupported task certificate (state_of_line task certificate l) l.mark) certificate.lines
