-- The roles of found states, and the marks that say them, whatever these rest on.
use Rattle.std.specs.Prelude.{◌≡◌, ℕ, Bool, List, map}
use Rattle.model.specs.Claims.{Mark, Line}
use Rattle.certificate_definitions.specs.Evidence.{LineMark, bare}
use Rattle.certificate.specs.CertificateParts.{listed_of}
use Rattle.certificate.specs.ListedSets.{Marked}
use Rattle.certificate.specs.declared.states.Listed.{Listed}
use Rattle.search.specs.Outcome.{AreEstimates, AreMarked, IsCut, is_marked_dead, line_of, lines_of}
use Rattle.search.specs.declared.nodes.Node.{Node}

-- the cost of a listed state, and its role
pub record Role : Type 0 where
  pub cost : ℕ
  pub mark : Mark

-- that which a mark says
abbrev pub role_in : Marked → Role
role_in m = record { cost = m.cost; mark = bare m.mark }

abbrev pub role_of : Listed → Role
role_of listed = role_in (listed_of listed)

-- that of a line
abbrev pub role_of_line : {S : Type 0} → Line S → Role
role_of_line line = record { cost = line.cost; mark = line.mark }

-- the marks say of each found state, in order, what its line does
abbrev pub HaveRolesOf : (value : List Bool → ℕ) (is_dead : List Bool → Bool) (states : List (List Bool)) (nodes : List Node) → List Listed → Type 0
HaveRolesOf value is_dead states nodes marks = map role_of marks ≡ map role_of_line (lines_of value is_dead states nodes)

-- the mark says what the line does of each state that was reached so and has this estimate where it is a cut
abbrev pub IsRoleOf : Node → ℕ → Listed → Type 0
IsRoleOf node rest listed =
    (value : List Bool → ℕ) (is_dead : List Bool → Bool) (s : List Bool) → is_marked_dead node ≡ is_dead s → (IsCut is_dead s node → rest ≡ value s)
    → role_of listed ≡ role_of_line (line_of value is_dead s node)

-- what is known of the found states where their marks are made
pub record CanBeMarked (value : List Bool → ℕ) (is_dead : List Bool → Bool) (states : List (List Bool)) (nodes : List Node) (estimates : List ℕ) : Type 0 where
  pub marked : AreMarked is_dead states nodes
  pub estimated : AreEstimates value is_dead states nodes estimates

-- the marks alone
abbrev pub marks_in : List Listed → List LineMark
marks_in = map (λ (l : Listed). (listed_of l).mark)
