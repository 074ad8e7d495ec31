-- Search spaces in the model's terms.
use Rattle.std.specs.Prelude.{◌≡◌, ◌≢◌, ℕ, ◌≤◌, Bool, IsTrue, List, [], length, ⊤}
use Rattle.std.specs.List.{list_all}
use Rattle.grounding.specs.declared.ground.Ground.{Ground}
use Rattle.grounding.specs.Ground.{task_in, atoms_in}
use Rattle.model.specs.Runs.{System}
use Rattle.model.specs.WellTyped.{is_task}
use Rattle.model.specs.NumberedAtoms.{numbered_atoms}
use Rattle.model.specs.Grounding.{ground_system}
use Rattle.search.specs.Outcome.{AreClassesOf}
use Rattle.certificate_definitions.specs.Certificates.{three, are_exchanges}
use Rattle.symmetries_definitions.specs.Exchanges.{Exchange}
use Rattle.symmetries_definitions.specs.Symmetries.{is_symmetry}
use Rattle.symmetries_definitions.specs.Orbits.{keeps_atoms, packed_representative}
use Rattle.symmetries.specs.Representatives.{ground_of, task_of, atoms_of, exchanges_of}
use Rattle.search_spaces.specs.Exchanges.{can_be_named}
use Rattle.search_spaces.specs.declared.search_space.SearchSpace.{SearchSpace}
use Rattle.search_spaces.specs.declared.search_space.SearchSpace.TheVariants as space

abbrev pub ground_in : SearchSpace → Ground
ground_in (space.Alone g) = g.now
ground_in (space.Orbits r) = ground_of r.now

-- the exchanges that map states of one class to one another
abbrev pub exchanges_in : SearchSpace → List Exchange
exchanges_in (space.Alone g) = []
exchanges_in (space.Orbits r) = exchanges_of r.now

-- What is searched is the ground task.
abbrev pub system_of : SearchSpace → System (List Bool) ℕ
system_of s = ground_system (task_in (ground_in s)) (atoms_in (ground_in s))

-- the key of a state's class: the state itself, or its representative
abbrev pub class_in : SearchSpace → List Bool → List Bool
class_in (space.Alone g) = λ bits. bits
class_in (space.Orbits r) = packed_representative (task_of r.now) (atoms_of r.now) (exchanges_of r.now)

-- classes are orbits if there is some exchange
abbrev pub HasExchanges : SearchSpace → Type 0
HasExchanges (space.Alone g) = ⊤
HasExchanges (space.Orbits r) = exchanges_of r.now ≢ []

-- The task is well typed, its numbered atoms are all that its instances change, and the exchanges are symmetries of it that keep them
-- and that a certificate can have.
pub record IsSearchSpace (s : SearchSpace) : Type 0 where
  pub typed : IsTrue (is_task (task_in (ground_in s)))
  pub atoms : atoms_in (ground_in s) ≡ numbered_atoms (task_in (ground_in s)) []
  pub symmetries : IsTrue (list_all (is_symmetry (task_in (ground_in s))) (exchanges_in s))
  pub kept : IsTrue (list_all (keeps_atoms (atoms_in (ground_in s))) (exchanges_in s))
  pub written : IsTrue (are_exchanges three (exchanges_in s))
  pub named : IsTrue (list_all (can_be_named (task_in (ground_in s))) (exchanges_in s))
  pub few : length (exchanges_in s) ≤ 1048576
  pub some : HasExchanges s

-- From states of one class the goal is reached by lists of the same length and cost.
abbrev pub ClassesReachGoalsAlike : Type 0
ClassesReachGoalsAlike = (s : SearchSpace) → IsSearchSpace s → AreClassesOf (system_of s) (class_in s)
