-- What the certificate of a search's found states is made of.
use Rattle.std.specs.Prelude.{◌≡◌, ℕ, ◌+◌, ◌≤◌, ◌⊎◌, Bool, true, IsTrue, List, [], length, map, Contains}
use Rattle.std.specs.List.{filter, list_all, range_with_len}
use Rattle.packed_state.specs.Sets.{has}
use Rattle.search.specs.declared.nodes.Node.{Node}
use Rattle.search.specs.Outcome as search
use Rattle.search.specs.Outcome.{IsReachableAt}
use Rattle.model.specs.Task.{Task, Atom}
use Rattle.model.specs.Meaning.{State, system_of}
use Rattle.model.specs.Claims.{Claim, Mark, expanded, cut, dead, Line}
use Rattle.certificate_definitions.specs.Evidence as evidence
use Rattle.certificate_definitions.specs.Evidence.{of_all, LineMark}
use Rattle.symmetries_definitions.specs.Exchanges.{Exchange}
use Rattle.certificate_definitions.specs.Certificates.{two, three, four, no_landmarks, Certificate, StateLine, IsClosedFor, keeps_limits, lines_of, value_of, is_dead_end_of}
use Rattle.certificate.specs.ListedSets.{Marked}
use Rattle.model.specs.NumberedAtoms.{numbered_atoms}
use Rattle.search_spaces.specs.Exchanges.{can_be_named}
use Rattle.line_evidence.specs.Shown.{has_few_zones}
use Rattle.solver.specs.Guidance.{Guidance, version_by, values_by, estimate_by, reports_dead}

-- the numbers of the atoms that are true in the packed state, rising
abbrev pub numbers_in : List Bool → List ℕ
numbers_in bits = filter (has bits) (range_with_len 0 (length bits))

-- what is found of a state rests on the values of all states
abbrev pub by_all : Mark → LineMark
by_all expanded = evidence.expanded
by_all (cut rest) = evidence.cut of_all rest
by_all dead = evidence.dead of_all

-- the certificate's line for a listed packed state
abbrev pub state_line : Line (List Bool) → StateLine
state_line line = record { cost = line.cost; mark = by_all line.mark; atoms = numbers_in line.state }

-- its cost and its mark
abbrev pub mark_of_line : {S : Type 0} → Line S → Marked
mark_of_line line = record { cost = line.cost; mark = by_all line.mark }

-- the certificate of a search by this guidance, with these lines
abbrev pub certificate_by : Claim → List Exchange → List Atom → Guidance → List StateLine → Certificate
certificate_by claim exchanges atoms guidance lines = record {
  version = version_by guidance;
  claim = claim;
  exchanges = exchanges;
  atoms = atoms;
  values = (values_by guidance).values;
  dead_ends = (values_by guidance).dead_ends;
  tables = (values_by guidance).tables;
  landmarks = no_landmarks;
  lines = lines;
}

-- the certificate that lists these states, which were found by this guidance, each expanded one as open, each other as a dead end
-- where it is reported one, and else as a cut with its estimate; by these exchanges some are alike
abbrev pub found_certificate : Claim → List Exchange → List Atom → Guidance → List (List Bool) → List Node → Certificate
found_certificate claim exchanges atoms guidance states nodes =
    certificate_by claim exchanges atoms guidance (map state_line (search.lines_of (estimate_by guidance) (reports_dead guidance) states nodes))

-- The certificate is closed for the task, claims this, keeps the limits of a certificate's text, its exchanges can be named, and it
-- lists at most `max_states` states by the numbered atoms, each at the place that is its number: different ones, as it is closed, and
-- each at the cost of a list of instances that leads to it. It is of version 2, of version 3 where the search went by tables or
-- exchanges, or of version 4 where it asked for landmark values; the line of none of these is too long. Each listed state that its values report a dead end is listed as one.
pub record IsShownBy (task : Task) (claim : Claim) (max_states : ℕ) (certificate : Certificate) : Type 0 where
  pub claims : certificate.claim ≡ claim
  pub closed : IsClosedFor task certificate
  pub within_limit : length certificate.lines ≤ max_states
  pub reached : (line : Line State) → Contains (lines_of task certificate) line → IsReachableAt (system_of task) line.state line.cost
  pub exchanges : IsTrue (list_all (can_be_named task) certificate.exchanges)
  pub atoms : certificate.atoms ≡ numbered_atoms task []
  pub within_limits : IsTrue (keeps_limits certificate)
  pub few_zones : list_all has_few_zones certificate.landmarks.values ≡ true
  pub version : (certificate.version ≡ two) ⊎ (certificate.version ≡ three) ⊎ (certificate.version ≡ four)
  pub dead_ends_are_reported : (line : Line State) → Contains (lines_of task certificate) line → IsTrue (is_dead_end_of task certificate line.state) → line.mark ≡ dead

-- each expanded state of the certificate costs, with its value, at most this
abbrev pub AreLinesExpandedWithin : Task → ℕ → Certificate → Type 0
AreLinesExpandedWithin task most certificate =
    (line : Line State) → Contains (lines_of task certificate) line → line.mark ≡ expanded → line.cost + value_of task certificate line.state ≤ most
