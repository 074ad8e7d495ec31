-- What the certificate of a search that the limit of states stopped says of the states that it found.
use Rattle.std.specs.Prelude.{◌≡◌, ℕ, ◌+◌, ◌≤◌, false, length, Contains}
use Rattle.model.specs.Task.{Task}
use Rattle.model.specs.Meaning.{State, initial_state, system_of}
use Rattle.model.specs.Runs.{CostsAtLeast}
use Rattle.model.specs.Claims.{cut, expanded, Line}
use Rattle.certificate_definitions.specs.Evidence as evidence
use Rattle.certificate_definitions.specs.Evidence.{Basis}
use Rattle.certificate_definitions.specs.Certificates.{Certificate, StateLine, has_landmarks, lines_of, state_of_line, value_by, value_of}
use Rattle.solver.specs.Listing.{AreLinesExpandedWithin}

-- the certificate lists the state as a cut, and what follows it costs at least `rest`
abbrev pub IsCutOf : Task → Certificate → Line State → (rest : ℕ) → Type 0
IsCutOf task certificate line rest = Contains (lines_of task certificate) line × (line.mark ≡ cut rest)

-- The certificate lists as many states as the limit allows. Each cut is with its state's value by what it rests on, which is no less than
-- the value of all states, and the very value of all states where there are no landmark values. `least` is the least sum of cost and value
-- of a cut, of which there is one at least: what a plan that goes on from there costs at least. The initial state's value is no greater,
-- and no plan costs less than an expanded state with its value. Without landmark values, no expanded state has a greater sum than `least`.
-- (A landmark value is of single states, so a sum may fall from a state to its successor: an expanded state may then have a greater sum
-- than one that waits.)
pub record IsAtLimit (task : Task) (least max_states : ℕ) (certificate : Certificate) : Type 0 where
  pub full : length certificate.lines ≡ max_states
  pub cuts_by_basis : (l : StateLine) (basis : Basis) (rest : ℕ) → Contains certificate.lines l → l.mark ≡ evidence.cut basis rest → rest ≡ value_by task certificate basis (state_of_line task certificate l)
  pub cuts_no_lower : (line : Line State) (rest : ℕ) → IsCutOf task certificate line rest → value_of task certificate line.state ≤ rest
  pub cuts_by_value : has_landmarks certificate.version ≡ false → (line : Line State) (rest : ℕ) → IsCutOf task certificate line rest → rest ≡ value_of task certificate line.state
  pub at_most_each_cut : (line : Line State) (rest : ℕ) → IsCutOf task certificate line rest → least ≤ line.cost + rest
  pub of_some_cut : (line : Line State) × (rest : ℕ) × IsCutOf task certificate line rest × (line.cost + rest ≡ least)
  pub expanded_no_dearer : (line : Line State) → Contains (lines_of task certificate) line → line.mark ≡ expanded → CostsAtLeast (system_of task) (line.cost + value_of task certificate line.state)
  pub open_within : has_landmarks certificate.version ≡ false → AreLinesExpandedWithin task least certificate
  pub start_within : value_of task certificate (initial_state task) ≤ least
