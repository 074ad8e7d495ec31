-- Worked examples of plan texts as written, each chosen to expose a wrong reading.
use Rattle.std.specs.Prelude.{◌≡◌, ℕ, true, false, List, [], ◌∷◌, codes, length, map, replicate}
use Rattle.model.specs.Task.{Name, Object, Task, by_number, Schema, and, no_formula, both, no_effect}
use Rattle.model.specs.Examples.{instance}
use Rattle.model.specs.PlanText.{IsPlanText}
use Rattle.model.specs.PlanWriting.{step_text, plan_text, is_lower_name, has_names}

-- an object, or an action, with this name
abbrev pub an_object : Name → Object
an_object name = record { name = name; type = 0 }

abbrev pub an_action : Name → List (List ℕ) → Schema
an_action name parameters = record {
  name = name;
  parameters = parameters;
  precondition = and no_formula;
  effect = both no_effect;
  increase = by_number 3;
}

-- a task with actions and objects of these names, with the single type `object`; the first action has two parameters, and the
-- others none
abbrev pub task_of_names : Name → List Name → List Name → Task
task_of_names first others objects = record {
  types = record { name = codes "object"; supertypes = 0 ∷ [] } ∷ [];
  objects = map an_object objects;
  predicates = [];
  functions = [];
  schemas = an_action first ((0 ∷ []) ∷ (0 ∷ []) ∷ []) ∷ map (λ name. an_action name []) others;
  init = [];
  values = [];
  goal = and no_formula;
  has_metric = true;
}

-- the actions are `hop` and `wait-2`, and the objects a, b and c
abbrev pub hop : Task
hop = task_of_names (codes "hop") (codes "wait-2" ∷ []) (codes "a" ∷ codes "b" ∷ codes "c" ∷ [])

pub record AreWritten : Type 0 where
  -- a plan of two steps with cost 6
  pub two_steps : plan_text hop (instance 0 (0 ∷ 1 ∷ []) ∷ instance 0 (1 ∷ 2 ∷ []) ∷ []) 6 ≡ codes "(hop a b)\n(hop b c)\n; cost = 6\n"
  pub its_length : length (plan_text hop (instance 0 (0 ∷ 1 ∷ []) ∷ instance 0 (1 ∷ 2 ∷ []) ∷ []) 6) ≡ 31
  -- a single step has no LF
  pub one_step : step_text hop (instance 0 (2 ∷ 0 ∷ [])) ≡ codes "(hop c a)"
  pub no_objects : plan_text hop (instance 1 [] ∷ []) 15 ≡ codes "(wait-2)\n; cost = 15\n"
  pub no_step : plan_text hop [] 0 ≡ codes "; cost = 0\n"
  -- the text of the two steps reads back as them
  pub reads_back : IsPlanText hop (codes "(hop a b)\n(hop b c)\n; cost = 6\n") (instance 0 (0 ∷ 1 ∷ []) ∷ instance 0 (1 ∷ 2 ∷ []) ∷ [])
  -- an action and an object may share a name; two actions, or two objects, may not
  pub named : has_names hop ≡ true
  pub an_action_as_an_object : has_names (task_of_names (codes "a") [] (codes "b" ∷ codes "a" ∷ [])) ≡ true
  pub one_action_twice : has_names (task_of_names (codes "hop") (codes "a" ∷ codes "hop" ∷ []) []) ≡ false
  pub one_object_twice : has_names (task_of_names (codes "hop") [] (codes "a" ∷ codes "b" ∷ codes "a" ∷ [])) ≡ false
  -- a name is in lower case, begins with a letter, and has at most 255 bytes
  pub in_upper_case : is_lower_name (codes "hOp") ≡ false
  pub with_a_digit_first : is_lower_name (codes "2a") ≡ false
  pub no_name : is_lower_name [] ≡ false
  pub of_255_bytes : is_lower_name (replicate 255 97) ≡ true
  pub of_256_bytes : is_lower_name (replicate 256 97) ≡ false
