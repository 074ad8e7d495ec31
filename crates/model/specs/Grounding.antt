-- The ground task: a planning task in terms of numbers, those of its atoms and of its kept instances. A packed state has one bit
-- for each numbered atom, and each step is a step of the task.
use Rattle.std.specs.Prelude.{◌≡◌, ℕ, Bool, nat_lt, IsTrue, List, [], ◌∷◌, ◌++◌, map, filter, length, slice_get, if◌then◌else◌, Option, None, Some, is_some, All}
use Rattle.std.specs.List.{list_all, range_with_len}
use Rattle.std.specs.Option.{option_map, option_map_or, option_and_then}
use Rattle.std.specs.FinSet.{contains, from_list}
use Rattle.model.specs.Task.{Atom, Formula, Task, Instance}
use Rattle.model.specs.Runs.{System}
use Rattle.model.specs.Meaning.{State, initial_state, holds, cost_of, step, meets_goal, system_of}
use Rattle.model.specs.Fluents.{is_fluent, static_atoms, HasInitialStatics}
use Rattle.model.specs.StaticallyFalse.{kept_instances}
use Rattle.model.specs.NumberedAtoms.{numbered_atoms, HasNumberedFluents}
use Rattle.model.specs.NumberedLiterals.{agrees, numbered_literals}
use Rattle.model.specs.Bisimulation.{IsBisimulation, SolveAlike}

-- ---- states

-- the atoms whose bit, at the same index, is set
abbrev pub chosen : List Atom → List Bool → List Atom
chosen [] bits = []
chosen (a ∷ atoms) [] = []
chosen (a ∷ atoms) (bit ∷ bits) = if bit then a ∷ chosen atoms bits else chosen atoms bits

-- the state that a packed state represents: its atoms, and the static atoms that are initially true
abbrev pub state_of_bits : Task → List Atom → List Bool → State
state_of_bits task atoms bits = from_list (chosen atoms bits ++ static_atoms task)

-- the packed state that represents a state
abbrev pub bits_of_state : List Atom → State → List Bool
bits_of_state atoms state = map (contains state) atoms

-- ---- the ground task

-- the successor state for the instance with this number; none if it is not applicable, or no instance has the number
abbrev pub ground_step : Task → List Atom → List Bool → ℕ → Option (List Bool)
ground_step task atoms bits number =
    option_and_then (λ i. option_map (bits_of_state atoms) (step task (state_of_bits task atoms bits) i)) (slice_get (kept_instances task) number)

-- The ground task with these numbered atoms: packed states, and instances by number.
abbrev pub ground_system : Task → List Atom → System (List Bool) ℕ
ground_system task atoms = record {
  initial = bits_of_state atoms (initial_state task);
  step = ground_step task atoms;
  cost = λ number. option_map_or (cost_of task) (slice_get (kept_instances task) number) 0;
  meets_goal = λ bits. meets_goal task (state_of_bits task atoms bits);
}

-- the numbers of the applicable instances, in ascending order
abbrev pub applicable_numbers : Task → List Atom → List Bool → List ℕ
applicable_numbers task atoms bits =
    filter (λ number. is_some (ground_step task atoms bits number)) (range_with_len 0 (length (kept_instances task)))

-- ---- the limits

pub data GroundLimit : Type 0 where
  of_instances : GroundLimit
  of_atoms : GroundLimit

-- The limit that is reported: that of instances if more are kept, otherwise that of atoms if more are numbered.
abbrev pub exceeded_limit : ℕ → ℕ → Task → List Atom → Option GroundLimit
exceeded_limit max_instances max_atoms task more =
    if nat_lt max_instances (length (kept_instances task)) then Some of_instances
    else if nat_lt max_atoms (length (numbered_atoms task more)) then Some of_atoms
    else None

-- ---- how a ground task relates to its task

-- the packed state represents the state
abbrev pub StandsFor : Task → List Atom → List Bool → State → Type 0
StandsFor task atoms bits state = state_of_bits task atoms bits ≡ state

-- the number is that of the kept instance
abbrev pub NamesKept : Task → ℕ → Instance → Type 0
NamesKept task number i = slice_get (kept_instances task) number ≡ Some i

-- The ground task and the task are bisimilar.
abbrev pub GroundTaskIsBisimilar : Type 0
GroundTaskIsBisimilar =
    (task : Task) (more : List Atom) → All (λ (a : Atom). IsTrue (is_fluent task a.predicate)) more
    → IsBisimulation (ground_system task (numbered_atoms task more)) (system_of task) (StandsFor task (numbered_atoms task more)) (NamesKept task)

-- So both have the same solutions, by the instances that the numbers name.
abbrev pub GroundTaskSolvesAlike : Type 0
GroundTaskSolvesAlike =
    (task : Task) (more : List Atom) → All (λ (a : Atom). IsTrue (is_fluent task a.predicate)) more
    → SolveAlike (ground_system task (numbered_atoms task more)) (system_of task) (NamesKept task)

-- Packed states represent the states that have the initial static atoms and no fluent atom without a number; each of these has a
-- packed state, of the same length as the numbered atoms.
pub record PacksStates (task : Task) (atoms : List Atom) : Type 0 where
  pub statics : (bits : List Bool) → HasInitialStatics task (state_of_bits task atoms bits)
  pub fluents : (bits : List Bool) → HasNumberedFluents task atoms (state_of_bits task atoms bits)
  pub packed : (state : State) → HasInitialStatics task state → HasNumberedFluents task atoms state → StandsFor task atoms (bits_of_state atoms state) state
  pub one_packed : (bits : List Bool) → length bits ≡ length atoms → bits_of_state atoms (state_of_bits task atoms bits) ≡ bits

-- If a formula holds in the state that a packed state represents, the packed state agrees with its sure literals.
abbrev pub NumberedLiteralsHold : Type 0
NumberedLiteralsHold =
    (task : Task) (more : List Atom) → All (λ (a : Atom). IsTrue (is_fluent task a.predicate)) more
    → (formula : Formula) (binding : List ℕ) (bits : List Bool) → IsTrue (holds task formula binding (state_of_bits task (numbered_atoms task more) bits))
    → IsTrue (list_all (agrees bits) (numbered_literals task (numbered_atoms task more) formula binding))
