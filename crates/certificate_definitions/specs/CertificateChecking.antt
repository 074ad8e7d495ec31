-- The faults of the lines of a certificate's text for a task, and which texts are accepted. The lines are examined in order, and
-- the first faulty one is reported: by the rules of the text, or because of what it says about the task.
use Rattle.std.specs.Prelude.{◌≡◌, ℕ, ◌+◌, ◌⊎◌, Bool, false, IsTrue, List, [], ◌∷◌, ◌++◌, map, length, Contains, Option}
use Rattle.std.specs.List.{list_all}
use Rattle.model.specs.Task.{Atom, Task, Instance}
use Rattle.model.specs.WellTyped.{is_atom}
use Rattle.model.specs.Fluents.{is_fluent}
use Rattle.model.specs.Claims.{none}
use Rattle.certificate_definitions.specs.Evidence.{Basis, LineMark, cut}
use Rattle.certificate_definitions.specs.Certificates.{Certificate, StateLine, IsClosedFor}
use Rattle.lower_bounds.specs.TableFunctions.{Row, is_among}
use Rattle.certificate_definitions.specs.CertificateRefusals.{IsPlanWithin}
use Rattle.certificate_definitions.specs.CertificateText.{NamedAtom, WeightedAtom, scope, row, tabled, TextLine, claims, atom, part, listed, whole_line, text_of, BeginCertificate, IsFaultAfter}
use Rattle.certificate_definitions.specs.CertificateNames.{Names, IsTextOf}

-- these are the names of a well-typed atom of a fluent predicate
abbrev pub NamesFluent : Task → NamedAtom → Type 0
NamesFluent task name = (a : Atom) × Names task name a × IsTrue (is_atom task a) × IsTrue (is_fluent task a.predicate)

-- one of these lines gives this atom
abbrev pub HasAtom : List TextLine → NamedAtom → Type 0
HasAtom lines name = (a : WeightedAtom) × Contains lines (atom a) × (a.atom ≡ name)

-- one of these lines lists this set of atoms
abbrev pub ListsAtoms : List TextLine → List ℕ → Type 0
ListsAtoms lines atoms = (l : StateLine) × Contains lines (listed l) × (l.atoms ≡ atoms)

abbrev pub IsCut : LineMark → Type 0
IsCut mark = (basis : Basis) × (rest : ℕ) × (mark ≡ cut basis rest)

-- the last lines are those of a table with this scope, with these rows so far
abbrev pub EndInTable : List TextLine → List ℕ → List Row → Type 0
EndInTable lines atoms rows = (before : List TextLine) × (lines ≡ before ++ part (tabled (scope atoms)) ∷ map (λ (r : Row). part (tabled (row r))) rows)

-- each of these atoms is in the scope
abbrev pub is_of_scope : List ℕ → List ℕ → Bool
is_of_scope atoms = list_all (is_among atoms)

-- one of these rows has this set of atoms
abbrev pub HasRow : List Row → List ℕ → Type 0
HasRow rows atoms = (r : Row) × Contains rows r × (r.atoms ≡ atoms)

-- After these lines, the line is wrong about the task, and the number is reported.
pub data IsWrongAfter (task : Task) (before : List TextLine) : TextLine → ℕ → Type 0 where
  -- a row with an atom outside its table's scope
  not_of_scope : (r : Row) (atoms : List ℕ) (rows : List Row) → EndInTable before atoms rows → is_of_scope atoms r.atoms ≡ false → IsWrongAfter task before (part (tabled (row r))) 40
  -- a row that its table already has
  repeated_row : (r : Row) (atoms : List ℕ) (rows : List Row) → EndInTable before atoms rows → IsTrue (is_of_scope atoms r.atoms) → HasRow rows r.atoms
      → IsWrongAfter task before (part (tabled (row r))) 44
  -- an atom that does not belong to the task, or whose predicate is static
  not_fluent : (a : WeightedAtom) → ¬ NamesFluent task a.atom → IsWrongAfter task before (atom a) 43
  -- an atom that occurred in an earlier line, with any weight
  repeated_atom : (a : WeightedAtom) → NamesFluent task a.atom → HasAtom before a.atom → IsWrongAfter task before (atom a) 44
  -- a state that occurred in an earlier line
  repeated_state : (l : StateLine) → ListsAtoms before l.atoms → IsWrongAfter task before (listed l) 44
  -- a cut although the claim is that no list of actions solves the task
  cut_not_allowed : (l : StateLine) → ¬ ListsAtoms before l.atoms → IsCut l.mark → Contains before (claims none) → IsWrongAfter task before (listed l) 52

-- each of these lines is right, after those before it
abbrev pub AreRight : Task → List TextLine → Type 0
AreRight task lines = (before after : List TextLine) (line : TextLine) (number : ℕ) → lines ≡ before ++ line ∷ after → ¬ IsWrongAfter task before line number

-- the text after these lines begins with a line that is wrong about the task
abbrev pub IsWrongHere : Task → List TextLine → List ℕ → ℕ → Type 0
IsWrongHere task before bytes number =
    (line : TextLine) × (more : List ℕ) × (bytes ≡ whole_line line ++ more) × BeginCertificate (before ++ line ∷ []) × IsWrongAfter task before line number

-- The number is reported for this line, counted from 1, the first faulty one: the lines before it are a prefix of a certificate,
-- and each is right.
pub record IsLineFault (task : Task) (text : List ℕ) (number line : ℕ) : Type 0 where
  pub before : List TextLine
  pub bytes : List ℕ
  pub splits : text ≡ text_of before ++ bytes
  pub begins : BeginCertificate before
  pub right : AreRight task before
  pub line_is : line ≡ length before + 1
  pub at_fault : IsFaultAfter before bytes number ⊎ IsWrongHere task before bytes number

-- The text is that of a certificate that is closed for the task; and either no plan is given, or one that solves the task and
-- costs no more than the claim.
pub record IsAccepted (task : Task) (text : List ℕ) (plan : Option (List Instance)) : Type 0 where
  pub certificate : Certificate
  pub is_text : IsTextOf task text certificate
  pub closed : IsClosedFor task certificate
  pub within : IsPlanWithin task certificate.claim plan
