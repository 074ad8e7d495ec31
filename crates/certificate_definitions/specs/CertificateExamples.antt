-- Worked examples of certificates: which are closed for a small task, and the faults of others. Each is chosen to expose a wrong
-- reading.
use Rattle.std.specs.Prelude.{◌≡◌, ℕ, ℤ, pos, negsuc, true, false, List, [], ◌∷◌, map, None}
use Rattle.model.specs.Task.{Atom}
use Rattle.model.specs.Examples.{ground, tie_task}
use Rattle.model.specs.Claims.{Claim, bound, none}
use Rattle.certificate_definitions.specs.Evidence.{of_all, expanded, cut, dead}
use Rattle.model.specs.Fluents.{is_fluent, static_atoms}
use Rattle.lower_bounds.specs.PotentialFunctions.{PotentialFunction}
use Rattle.lower_bounds.specs.PotentialExamples.{token_task, token_atoms, potentials, minus}
use Rattle.lower_bounds.specs.TableFunctions.{Table}
use Rattle.certificate_definitions.specs.Certificates.{Version, one, two, three, StateLine, Certificate, keeps_limits, IsClosedFor, no_landmarks}
use Rattle.certificate_definitions.specs.CertificateRefusals.{IsWrongAt, IsWrong, not_fluent, repeated, not_symmetry, no_initial, unfair, unfair_goal, dead_unfair, dead_unfair_goal, goal_open, successor_missing, cut_weak, cut_not_allowed, not_dead, exchange_line, atom_line, state_line}
use Rattle.symmetries_definitions.specs.Exchanges.{Exchange}
use Rattle.symmetries_definitions.specs.SymmetryExamples.{swapping, gripper}

abbrev pub expanded_at : ℕ → List ℕ → StateLine
expanded_at cost atoms = record { cost = cost; mark = expanded; atoms = atoms }

abbrev pub cut_at : ℕ → ℕ → List ℕ → StateLine
cut_at cost rest atoms = record { cost = cost; mark = cut of_all rest; atoms = atoms }

abbrev pub dead_at : ℕ → List ℕ → StateLine
dead_at cost atoms = record { cost = cost; mark = dead of_all; atoms = atoms }

-- the potential function that is 0 everywhere
abbrev pub zeros : List Atom → PotentialFunction
zeros atoms = potentials (pos 0) (map (λ (a : Atom). pos 0) atoms)

-- a certificate of version 1, which has no dead ends
abbrev pub first_version : Claim → List Atom → PotentialFunction → List StateLine → Certificate
first_version claim atoms p lines = record { version = one; claim = claim; exchanges = []; atoms = atoms; values = p ∷ []; dead_ends = zeros atoms; tables = []; landmarks = no_landmarks; lines = lines }

-- In the task `tie` an atom of the static predicate `link` is initially true; the only instance makes `tied` true, which is the
-- goal.
abbrev pub linked : Atom
linked = ground 0 (0 ∷ 0 ∷ [])

abbrev pub tied : Atom
tied = ground 1 []

-- a certificate whose potential function is 0 everywhere
abbrev pub claims : Claim → List Atom → List StateLine → Certificate
claims claim atoms lines = first_version claim atoms (zeros atoms) lines

-- a certificate in which `tied` has this weight
abbrev pub weighs : Claim → (constant weight : ℤ) → List StateLine → Certificate
weighs claim constant weight lines = first_version claim (tied ∷ []) (potentials constant (weight ∷ [])) lines

-- the initial state is open, and the state after the instance is a cut
abbrev pub start_expanded : List StateLine
start_expanded = expanded_at 0 [] ∷ cut_at 1 0 (0 ∷ []) ∷ []

-- In the task `token`, whose token is at x or at y, the goal is that it is at both. The single line lists the initial state as a
-- dead end: the token is missing at one of the two, and no step changes that. The arguments are the constant and the weight of
-- (y) for dead ends; that of (x) is -1.
abbrev pub token_reported : Version → Claim → (constant of_y : ℤ) → Certificate
token_reported version claim constant of_y = record {
  version = version;
  claim = claim;
  exchanges = [];
  atoms = token_atoms;
  values = zeros token_atoms ∷ [];
  dead_ends = potentials constant (minus 1 ∷ of_y ∷ []);
  tables = [];
  landmarks = no_landmarks;
  lines = dead_at 0 (0 ∷ []) ∷ [];
}

-- a table over this atom, with a row where it is false and one where it is true
abbrev pub table_over : ℕ → Table
table_over atom = record {
  scope = atom ∷ [];
  rows = record { atoms = []; weights = pos 0 ∷ pos 0 ∷ [] } ∷ record { atoms = atom ∷ []; weights = pos 0 ∷ pos 0 ∷ [] } ∷ [];
}

-- Version 3: for the task `token`, a table over each of its two atoms, and one state.
abbrev pub token_tables : Certificate
token_tables = record {
  version = three;
  claim = bound 0;
  exchanges = [];
  atoms = token_atoms;
  values = zeros token_atoms ∷ [];
  dead_ends = zeros token_atoms;
  tables = table_over 0 ∷ table_over 1 ∷ [];
  landmarks = no_landmarks;
  lines = expanded_at 0 (0 ∷ []) ∷ [];
}

-- Version 3 with these exchanges: for the task `gripper`, whose objects 2 and 3 are balls, 4 and 5 grippers, 0 and 1 rooms, the
-- atoms of the balls' positions, and one state.
abbrev pub ball_atoms : List Atom
ball_atoms = ground 1 (2 ∷ 0 ∷ []) ∷ ground 1 (3 ∷ 0 ∷ []) ∷ []

abbrev pub gripper_by : Version → List Exchange → Certificate
gripper_by v exchanges = record {
  version = v;
  claim = bound 0;
  exchanges = exchanges;
  atoms = ball_atoms;
  values = zeros ball_atoms ∷ [];
  dead_ends = zeros ball_atoms;
  tables = [];
  landmarks = no_landmarks;
  lines = cut_at 0 0 [] ∷ [];
}

pub record AreJudged : Type 0 where
  -- Static atoms occur in no line, and are true in each listed state.
  pub link_is_static : is_fluent tie_task 0 ≡ false
  pub tied_is_fluent : is_fluent tie_task 1 ≡ true
  pub static_at_start : static_atoms tie_task ≡ linked ∷ []
  -- No plan costs less than 1: a cut's bound covers everything that follows the state.
  pub closed : IsClosedFor tie_task (claims (bound 1) (tied ∷ []) start_expanded)
  -- The claim that none costs less than 2 is too strong, for a cut and for an open line.
  pub cut_claims_too_little : IsWrongAt tie_task (claims (bound 2) (tied ∷ []) start_expanded) cut_weak 6
  pub open_goal : IsWrongAt tie_task (claims (bound 2) (tied ∷ []) (expanded_at 0 [] ∷ expanded_at 1 (0 ∷ []) ∷ [])) goal_open 6
  -- A cut's own bound is not trusted, and no cut is allowed under the claim that there is no plan.
  pub cut_by_its_bound : IsWrongAt tie_task (claims (bound 2) (tied ∷ []) (expanded_at 0 [] ∷ cut_at 1 1 (0 ∷ []) ∷ [])) cut_weak 6
  pub cut_without_bound : IsWrongAt tie_task (claims none (tied ∷ []) start_expanded) cut_not_allowed 6
  -- An open line's successors must be listed, and the initial state at cost 0.
  pub missing : IsWrongAt tie_task (claims (bound 1) (tied ∷ []) (expanded_at 0 [] ∷ [])) successor_missing 5
  pub dear_start : IsWrong tie_task (claims (bound 1) (tied ∷ []) (expanded_at 1 [] ∷ cut_at 1 0 (0 ∷ []) ∷ [])) None 1 no_initial
  -- The values of a potential function are lower bounds of the remaining cost: if the weight of `tied` is the cost of the
  -- instance, the initial state alone, as a cut, shows that no plan costs less than 1. It does not show that none costs less than
  -- 2, nor allow a bound above its value.
  pub cut_by_value : IsClosedFor tie_task (weighs (bound 1) (pos 1) (negsuc 0) (cut_at 0 1 [] ∷ []))
  pub claims_above_value : IsWrongAt tie_task (weighs (bound 2) (pos 1) (negsuc 0) (cut_at 0 1 [] ∷ [])) cut_weak 5
  pub cut_above_value : IsWrongAt tie_task (weighs (bound 1) (pos 1) (negsuc 0) (cut_at 0 2 [] ∷ [])) cut_weak 5
  -- If the weight is 2, the instance loses more than its cost; and if the constant is 2, the value in goal states exceeds 0.
  pub worth_more : IsWrongAt tie_task (weighs (bound 1) (pos 2) (negsuc 1) (cut_at 0 1 [] ∷ [])) unfair 0
  pub left_at_goal : IsWrongAt tie_task (weighs (bound 1) (pos 2) (negsuc 0) (cut_at 0 1 [] ∷ [])) unfair_goal 0
  -- Atoms are fluent and distinct; the numbers in a line ascend; there is a weight for each atom, within the limits.
  pub static_atom : IsWrongAt tie_task (claims (bound 1) (linked ∷ tied ∷ []) start_expanded) not_fluent 4
  pub atom_twice : IsWrongAt tie_task (claims (bound 1) (tied ∷ tied ∷ []) start_expanded) repeated 5
  pub state_twice : IsWrongAt tie_task (claims (bound 1) (tied ∷ []) (expanded_at 0 [] ∷ cut_at 0 0 [] ∷ [])) repeated 6
  pub numbers_rise : keeps_limits (claims (bound 1) (tied ∷ []) (expanded_at 0 (0 ∷ 0 ∷ []) ∷ [])) ≡ false
  pub weights_are_limited : keeps_limits (weighs (bound 1) (pos 0) (pos 2147483648) []) ≡ false
  pub least_weight : keeps_limits (weighs (bound 1) (pos 2147483647) (negsuc 2147483646) []) ≡ true
  pub weight_missing : keeps_limits (first_version (bound 1) (tied ∷ []) (potentials (pos 0) []) []) ≡ false
  -- A dead-end line shows that no plan starts there, whatever the claim.
  pub dead_start : IsClosedFor token_task (token_reported two none (pos 2) (minus 1))
  pub dead_within_bound : IsClosedFor token_task (token_reported two (bound 7) (pos 2) (minus 1))
  -- A dead end needs a value of at least 1; the value in goal states is never above 0; and no step makes the sum fall, even at a
  -- cost of 1.
  pub not_reported_dead : IsWrongAt token_task (token_reported two none (pos 1) (minus 1)) not_dead 6
  pub dead_left_at_goal : IsWrongAt token_task (token_reported two none (pos 3) (minus 1)) dead_unfair_goal 1
  pub lost_by_fore : IsWrongAt token_task (token_reported two none (pos 2) (minus 2)) dead_unfair 1
  -- Version 1 has no dead-end lines, and no weights for them.
  pub version_2_has_dead_ends : keeps_limits (token_reported two none (pos 2) (minus 1)) ≡ true
  pub version_1_has_none : keeps_limits (token_reported one none (pos 2) (minus 1)) ≡ false
  pub dead_in_version_1 : keeps_limits (first_version none token_atoms (zeros token_atoms) (dead_at 0 (0 ∷ []) ∷ [])) ≡ false
  -- The first state's line follows the version, the claim, the constants, two atoms, and two tables with two rows each.
  pub state_after_tables : state_line token_tables 0 ≡ 12
  pub tables_within_limits : keeps_limits token_tables ≡ true
  -- The lines of two exchanges come before those of two atoms, and these before the first state; each is reported by its line.
  pub second_exchange : exchange_line 1 ≡ 5
  pub atom_after_exchanges : atom_line (gripper_by three (swapping 2 3 ∷ swapping 4 5 ∷ [])) 0 ≡ 6
  pub state_after_exchanges : state_line (gripper_by three (swapping 2 3 ∷ swapping 4 5 ∷ [])) 0 ≡ 8
  pub rooms_exchanged : IsWrongAt gripper (gripper_by three (swapping 2 3 ∷ swapping 0 1 ∷ [])) not_symmetry 5
  pub ball_and_gripper : IsWrongAt gripper (gripper_by three (swapping 2 4 ∷ [])) not_symmetry 4
  pub ball_and_none : IsWrongAt gripper (gripper_by three (swapping 2 6 ∷ [])) not_symmetry 4
  -- Only version 3 has exchanges, and each of them has at least two objects.
  pub exchanges_in_version_3 : keeps_limits (gripper_by three (swapping 2 3 ∷ [])) ≡ true
  pub exchanges_in_version_2 : keeps_limits (gripper_by two (swapping 2 3 ∷ [])) ≡ false
  pub version_2_without : keeps_limits (gripper_by two []) ≡ true
  pub exchange_of_nothing : keeps_limits (gripper_by three ([] ∷ [])) ≡ false
