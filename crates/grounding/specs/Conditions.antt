-- Conditions of the code, in the model's terms.
use Rattle.std.specs.Prelude.{◌≡◌, ℕ, Bool, true, false, List, map, length, slice_get, Option, None, Some}
use Rattle.std.specs.List.{list_all}
use Rattle.std.specs.Option.{option_map_or}
use Rattle.grounding_instances.specs.Numbers.{numbered_of}
use Rattle.grounding.specs.Unnumbered.{may_hold}
use Rattle.grounding.specs.declared.condition.Condition.{Condition}
use Rattle.grounding.specs.declared.condition.Beyond.{Beyond}
use Rattle.grounding.specs.declared.condition.Beyond.TheVariants as beyond
use Rattle.model.specs.Task.{Task, Atom, Formula}
use Rattle.model.specs.Meaning.{holds}
use Rattle.model.specs.SureLiterals.{sure}
use Rattle.model.specs.NumberedLiterals as model
use Rattle.model.specs.NumberedLiterals.{agrees, numbered_literals}
use Rattle.model.specs.Grounding.{state_of_bits}

abbrev pub literals_in : Condition → List model.NumberedLiteral
literals_in c = map numbered_of c.literals.items

-- what is to be asked beyond the literals, by whether all those without a number may hold, and by what the formula says
-- beyond them
abbrev pub beyond_of : Bool → Option Bool → Beyond
beyond_of false said = beyond.Never
beyond_of true (Some true) = beyond.Nothing
beyond_of true (Some false) = beyond.Refuted
beyond_of true None = beyond.Formula

-- the answer, by whether the literals are true; none if the formula has to be evaluated
abbrev pub decided_by : Beyond → Bool → Option Bool
decided_by beyond.Nothing agreed = Some agreed
decided_by beyond.Never agreed = Some false
decided_by beyond.Refuted agreed = Some false
decided_by beyond.Formula true = None
decided_by beyond.Formula false = Some false

abbrev pub decided_in : Condition → List Bool → Option Bool
decided_in c bits = decided_by c.beyond (list_all (agrees bits) (literals_in c))

-- whether the sure literals without numbers are true in packed states
abbrev pub may_of : Beyond → Bool
may_of beyond.Nothing = true
may_of beyond.Never = false
may_of beyond.Refuted = true
may_of beyond.Formula = true

abbrev pub may_hold_in : Condition → Bool
may_hold_in c = may_of c.beyond

-- whether some packed state may satisfy the formula
abbrev pub can_of : Beyond → Bool
can_of beyond.Nothing = true
can_of beyond.Never = false
can_of beyond.Refuted = false
can_of beyond.Formula = true

abbrev pub can_hold_in : Condition → Bool
can_hold_in c = can_of c.beyond

-- the condition of this number may hold
abbrev pub can_hold_at : List Condition → ℕ → Bool
can_hold_at conditions n = option_map_or can_hold_in (slice_get conditions n) false

-- It has the formula's literals that are of numbered atoms, where these objects stand for the variables, it says whether its
-- other literals may hold, and what it decides is whether the formula holds.
pub record IsConditionOf (t : Task) (atoms : List Atom) (formula : Formula) (binding : List ℕ) (c : Condition) : Type 0 where
  pub literals : literals_in c ≡ numbered_literals t atoms formula binding
  pub may : may_hold_in c ≡ list_all (may_hold t atoms) (sure t formula binding)
  pub decided : (bits : List Bool) (answer : Bool) → length bits ≡ length atoms → decided_in c bits ≡ Some answer → holds t formula binding (state_of_bits t atoms bits) ≡ answer
