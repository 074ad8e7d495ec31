-- What symmetries of a task preserve, and what a listing closed up to them shows.
use Rattle.std.specs.Prelude.{◌≡◌, ℕ, ◌↔◌, Bool, IsTrue, List, [], length, All}
use Rattle.std.specs.Bool.{Decides}
use Rattle.std.specs.List.{list_all}
use Rattle.model.specs.Task.{Union, Atom, Formula, Effect, Task}
use Rattle.model.specs.Runs.{System}
use Rattle.model.specs.Claims.{Claim, ClaimHolds, Line, AreTrue, IsClosed}
use Rattle.model.specs.Meaning.{State, holds, changes_of, after_changes, system_of}
use Rattle.model.specs.WellTyped.{is_formula, is_effect, is_task}
use Rattle.model.specs.Fluents.{is_fluent}
use Rattle.model.specs.NumberedAtoms.{numbered_atoms}
use Rattle.model.specs.Grounding.{state_of_bits, ground_system}
use Rattle.model.specs.Bisimulation.{IsBisimulationEquivalence, ReachGoalsAlike}
use Rattle.symmetries_definitions.specs.Exchanges.{Exchange, image_of_object, objects_in, are_different, image_of_binding, image_of_state, image_of_instance, image_of_formula, image_of_effect}
use Rattle.symmetries_definitions.specs.Symmetries.{IsSymmetry, is_symmetry}
use Rattle.symmetries_definitions.specs.Orbits.{IsAutomorphism, AreOfOneOrbit, representative, AreAlike, keeps_atoms, ArePackedAlike}

-- ---- the test

-- an exchange passes exactly if the objects of the pairs are all different and the exchange is a symmetry
abbrev pub TestIsExact : Type 0
TestIsExact = (task : Task) (exchange : Exchange) → Decides (is_symmetry task exchange) (IsTrue (are_different (objects_in exchange)) × IsSymmetry task (image_of_object exchange))

-- ---- what symmetries preserve

-- The image of a formula holds in the image of a state exactly if the formula holds in the state; the image of an effect leads
-- from the image of a state to the image of the state that the effect leads to.
pub record ImagesMeanTheSame (task : Task) (to : ℕ → ℕ) : Type 0 where
  pub formulas : (formula : Formula) (scope : List Union) (binding : List ℕ) (s : State) → IsTrue (is_formula task scope formula) → length scope ≡ length binding
      → holds task (image_of_formula to formula) (image_of_binding to binding) (image_of_state to s) ≡ holds task formula binding s
  pub effects : (effect : Effect) (scope : List Union) (binding : List ℕ) (s : State) → IsTrue (is_effect task scope effect) → length scope ≡ length binding
      → after_changes task (image_of_state to s) (changes_of task (image_of_effect to effect) (image_of_binding to binding)) ≡ image_of_state to (after_changes task s (changes_of task effect binding))

abbrev pub SymmetriesKeepMeaning : Type 0
SymmetriesKeepMeaning = (task : Task) (to : ℕ → ℕ) → IsSymmetry task to → ImagesMeanTheSame task to

-- So a symmetry maps each step to a step of the same cost, and goals to goals.
abbrev pub SymmetriesAreAutomorphisms : Type 0
SymmetriesAreAutomorphisms =
    (task : Task) (to : ℕ → ℕ) → IsTrue (is_task task) → IsSymmetry task to → IsAutomorphism (system_of task) (image_of_state to) (image_of_instance to)

-- ---- properties of orbits

-- For two states of the same orbit, each step of the one has a step of the other, with the same cost, to a state of the same
-- orbit; and both agree on the goal.
abbrev pub OrbitsKeepSteps : {S A : Type 0} → System S A → Type 0
OrbitsKeepSteps t = IsBisimulationEquivalence t (AreOfOneOrbit t)

-- States with the same representative under symmetries of the task are in the same orbit. Only that the representative is an
-- image of the state is used.
abbrev pub AlikeStatesAreOfOneOrbit : Type 0
AlikeStatesAreOfOneOrbit =
    (task : Task) (atoms : List Atom) (exchanges : List Exchange) → IsTrue (is_task task) → IsTrue (list_all (is_symmetry task) exchanges)
    → (s r : State) → AreAlike atoms exchanges s r → AreOfOneOrbit (system_of task) s r

-- without exchanges each state is its own representative
abbrev pub StatesAloneStandForThemselves : Type 0
StatesAloneStandForThemselves = (atoms : List Atom) (s : State) → representative atoms [] s ≡ s

-- ---- what listings show

-- The claim of a listing closed up to symmetries of the task is true of every list of the task, of whatever length, if the marks of the
-- listing are true: when a list reaches a state in the class of a listed one, the rest of it is carried over to the listed state.
abbrev pub ListingsByExchangesClaim : Type 0
ListingsByExchangesClaim =
    (task : Task) (atoms : List Atom) (exchanges : List Exchange) → IsTrue (is_task task) → IsTrue (list_all (is_symmetry task) exchanges)
    → (claim : Claim) (lines : List (Line State)) → AreTrue (system_of task) lines → IsClosed (system_of task) (AreAlike atoms exchanges) claim lines
    → ClaimHolds (system_of task) claim

-- ---- the ground task

-- Packed states are related exactly if the states that they represent are, provided that images of numbered atoms are numbered.
abbrev pub PackedStatesAreAlike : Type 0
PackedStatesAreAlike =
    (task : Task) (more : List Atom) (exchanges : List Exchange) → All (λ (a : Atom). IsTrue (is_fluent task a.predicate)) more
    → IsTrue (list_all (is_symmetry task) exchanges) → IsTrue (list_all (keeps_atoms (numbered_atoms task more)) exchanges) → (bits other : List Bool)
    → ArePackedAlike task (numbered_atoms task more) exchanges bits other
    ↔ AreAlike (numbered_atoms task more) exchanges (state_of_bits task (numbered_atoms task more) bits) (state_of_bits task (numbered_atoms task more) other)

-- So the goal is reached at the same costs from related packed states.
abbrev pub GoalsAreReachedAlike : Type 0
GoalsAreReachedAlike =
    (task : Task) (more : List Atom) (exchanges : List Exchange) → IsTrue (is_task task) → All (λ (a : Atom). IsTrue (is_fluent task a.predicate)) more
    → IsTrue (list_all (is_symmetry task) exchanges) → IsTrue (list_all (keeps_atoms (numbered_atoms task more)) exchanges) → (bits other : List Bool)
    → ArePackedAlike task (numbered_atoms task more) exchanges bits other → ReachGoalsAlike (ground_system task (numbered_atoms task more)) bits other
