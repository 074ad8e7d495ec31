-- Since when a part of a formula has been false along applicable steps.
use Rattle.std.specs.Prelude.{◌≡◌, ℕ, ◌-◌, ◌≤◌, Bool, true, false, List, length, take, Some}
use Rattle.model.specs.Task.{Task, Instance}
use Rattle.model.specs.Meaning.{State, initial_state, system_of}
use Rattle.model.specs.Runs.{run}
use Rattle.explain_plans.specs.FalseParts.{Part, part_holds}

-- the first n steps are applicable, and the part is true, or false, in the state that they lead to
abbrev pub IsAfter : Task → List Instance → Part → ℕ → Bool → Type 0
IsAfter task steps part n value =
    (s : State) × (run (system_of task) (initial_state task) (take n steps) ≡ Some s) × (part_holds task s part ≡ value)

-- since when a part has been false
pub data History : Type 0 where
  -- from the initial state on
  always : History
  -- this step, counted from 1, made it false
  by_step : ℕ → History

-- the step made the part false, and it has not been true in any later state; steps count from 1
pub record IsMadeFalseBy (task : Task) (steps : List Instance) (part : Part) (step : ℕ) : Type 0 where
  pub counted_from_one : 1 ≤ step
  pub is_there : step ≤ length steps
  pub before : IsAfter task steps part (step - 1) true
  pub since : (n : ℕ) → step ≤ n → n ≤ length steps → IsAfter task steps part n false

-- the part is false after all steps, and since when
abbrev pub IsHistory : Task → List Instance → Part → History → Type 0
IsHistory task steps part always = (n : ℕ) → n ≤ length steps → IsAfter task steps part n false
IsHistory task steps part (by_step step) = IsMadeFalseBy task steps part step

-- the steps are applicable in order
abbrev pub DoRun : Task → List Instance → Type 0
DoRun task steps = (s : State) × (run (system_of task) (initial_state task) steps ≡ Some s)
