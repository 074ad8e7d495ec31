-- What the checker knows after some of a certificate's lines.
use Rattle.std.specs.Prelude.{◌≡◌, ◌≢◌, ℕ, ◌+◌, ◌<◌, ◌≤◌, IsTrue, List, length, All, AllPairs, Contains, slice_get, Option, None, Some}
use Rattle.cert_checker.specs.declared.refusal.Refusal.{Refusal}
use Rattle.cert_checker.specs.FluentAtoms.{AreFluent}
use Rattle.cert_checker.specs.CertChecker.{IsFirstRefusal, IsTrueRefusal}
use Rattle.model.specs.Task.{Task, Instance}
use Rattle.model.specs.Meaning.{State, meets_goal, system_of}
use Rattle.model.specs.Limits.{max_numbered_atoms}
use Rattle.model.specs.Grounding.{exceeded_limit}
use Rattle.model.specs.Claims.{none, Allows, Mark, cut, Line, IsListedWithin}
use Rattle.certificate_definitions.specs.Evidence as evidence
use Rattle.certificate_definitions.specs.Evidence.{Basis, LineMark}
use Rattle.lower_bounds.specs.TableFunctions.{Row, Table}
use Rattle.symmetries_definitions.specs.Exchanges.{Exchange}
use Rattle.certificate_definitions.specs.Certificates.{Certificate, StateLine, keeps_limits, state_of_line, lines_of, is_symmetry_for, AreAlikeFor, value_by, is_dead_end_by, AreFairFor, AreLandmarksFair}

-- the refusal is true for any plan and any limit of kept instances
abbrev pub IsTrueAnyway : Task → Certificate → Refusal → Type 0
IsTrueAnyway task c refusal = (plan : Option (List Instance)) (most : ℕ) → IsTrueRefusal task c plan most refusal

-- none of the first `count` state lines is a cut if the claim is that no list solves
abbrev pub CutsAreAllowed : Task → Certificate → ℕ → Type 0
CutsAreAllowed task c count =
    (place : ℕ) (l : Line State) (rest : ℕ) → place < count → slice_get (lines_of task c) place ≡ Some l → l.mark ≡ cut rest → c.claim ≡ none → ⊥

-- the refusal is the first, for any plan, if the certificate was read without fault and the ground task keeps its limits
abbrev pub IsFirstGrounded : Task → Certificate → Refusal → Type 0
IsFirstGrounded task c refusal =
    AllPairs (λ (k l : Line State). k.state ≢ l.state) (lines_of task c) → CutsAreAllowed task c (length (lines_of task c))
    → (plan : Option (List Instance)) (most : ℕ) → exceeded_limit most max_numbered_atoms task c.atoms ≡ None → IsFirstRefusal task c plan most refusal

-- each exchange is a symmetry of the task and maps numbered atoms to numbered atoms
abbrev pub AreSymmetries : Task → Certificate → Type 0
AreSymmetries task c = All (λ (e : Exchange). IsTrue (is_symmetry_for task c e)) c.exchanges

-- the same, if the exchanges are symmetries
abbrev pub IsFirstSymmetric : Task → Certificate → Refusal → Type 0
IsFirstSymmetric task c refusal = AreSymmetries task c → IsFirstGrounded task c refusal

-- the certificate's line at a place has this cost and this mark
abbrev pub HasCost : Certificate → ℕ → ℕ → LineMark → Type 0
HasCost c place cost mark = (l : StateLine) × (slice_get c.lines place ≡ Some l) × (l.cost ≡ cost) × (l.mark ≡ mark)

-- the listing has this state at a place, at this cost and with this mark
abbrev pub IsListedAs : Task → Certificate → ℕ → State → ℕ → Mark → Type 0
IsListedAs task c place state cost mark = slice_get (lines_of task c) place ≡ Some (record { state = state; cost = cost; mark = mark })

-- the certificate's line at a place lists this state, at this cost, with this mark and what it rests on
abbrev pub IsListedBy : Task → Certificate → ℕ → State → ℕ → LineMark → Type 0
IsListedBy task c place state cost mark = (l : StateLine) × (slice_get c.lines place ≡ Some l) × (state_of_line task c l ≡ state) × (l.cost ≡ cost) × (l.mark ≡ mark)

-- a cheapest listed state that is alike is at this place
pub record IsCheapestAt {S : Type 0} (alike : S → S → Type 0) (lines : List (Line S)) (s : S) (place : ℕ) : Type 0 where
  pub line : Line S
  pub listed : slice_get lines place ≡ Some line
  pub is_alike : alike line.state s
  pub least : (other : Line S) → Contains lines other → alike other.state s → line.cost ≤ other.cost

-- and has this cost
abbrev pub IsLeastCost : {S : Type 0} → (S → S → Type 0) → List (Line S) → S → ℕ → Type 0
IsLeastCost alike lines s cost = (place : ℕ) × (cheapest : IsCheapestAt alike lines s place) × (cheapest.line.cost ≡ cost)

-- An expanded state of this cost: for each successor an alike state is listed at no more than the cost of the step after this one; if
-- the state meets the goal, its cost is no less than claimed.
pub record IsExpandedClosed (task : Task) (c : Certificate) (state : State) (cost : ℕ) : Type 0 where
  pub successors_listed : (i : Instance) (next : State) → (system_of task).step state i ≡ Some next → IsListedWithin (AreAlikeFor task c) (lines_of task c) next (cost + (system_of task).cost i)
  pub goal_allowed : IsTrue (meets_goal task state) → Allows c.claim cost

-- A cut of this cost, basis and bound: the bound is at most the state's value by the basis, and the sum no less than claimed.
abbrev pub IsCutClosed : Task → Certificate → State → ℕ → Basis → ℕ → Type 0
IsCutClosed task c state cost basis rest = (rest ≤ value_by task c basis state) × Allows c.claim (cost + rest)

-- a state of a closed listing, at this cost and with this mark
abbrev pub IsClosedAs : Task → Certificate → State → ℕ → LineMark → Type 0
IsClosedAs task c state cost evidence.expanded = IsExpandedClosed task c state cost
IsClosedAs task c state cost (evidence.cut basis rest) = IsCutClosed task c state cost basis rest
IsClosedAs task c state cost (evidence.dead basis) = IsTrue (is_dead_end_by task c basis state)

-- a line of a closed listing
abbrev pub IsLineClosed : Task → Certificate → StateLine → Type 0
IsLineClosed task c l = IsClosedAs task c (state_of_line task c l) l.cost l.mark

-- no table has the same row twice
abbrev pub AreRowsDistinct : Certificate → Type 0
AreRowsDistinct c = All (λ (t : Table). AllPairs (λ (q r : Row). q.atoms ≢ r.atoms) t.rows) c.tables

-- All is right up to the state line at this place: reading, limits of the ground task, exchanges, values, landmark values, initial state, and the
-- state lines before.
pub record IsRightUpTo (task : Task) (c : Certificate) (most place : ℕ) : Type 0 where
  pub keeps : IsTrue (keeps_limits c)
  pub rows : AreRowsDistinct c
  pub atoms : AreFluent task c.atoms
  pub distinct : AllPairs (λ (k l : Line State). k.state ≢ l.state) (lines_of task c)
  pub allowed : CutsAreAllowed task c (length (lines_of task c))
  pub within : exceeded_limit most max_numbered_atoms task c.atoms ≡ None
  pub symmetric : AreSymmetries task c
  pub fair : AreFairFor task c
  pub landmarks : AreLandmarksFair task c
  pub initial : IsListedWithin (AreAlikeFor task c) (lines_of task c) (system_of task).initial 0
  pub lines : (k : ℕ) (l : StateLine) → k < place → slice_get c.lines k ≡ Some l → IsLineClosed task c l

-- all is right, if the certificate was read without fault and the ground task keeps its limits
abbrev pub IsRightGrounded : Task → Certificate → Type 0
IsRightGrounded task c =
    AllPairs (λ (k l : Line State). k.state ≢ l.state) (lines_of task c) → CutsAreAllowed task c (length (lines_of task c))
    → (most : ℕ) → exceeded_limit most max_numbered_atoms task c.atoms ≡ None → IsRightUpTo task c most (length (lines_of task c))
