-- Counting changes of the code, in the model's terms.
use Rattle.std.specs.Prelude.{◌≡◌, ℕ, false, not, List, [], map, slice_get, Option, Some, is_none}
use Rattle.std.specs.Global.{Box, Vec}
use Rattle.std.specs.Option.{option_map, option_map_or}
use Rattle.task.specs.TaskParts.{object_of, formula_of}
use Rattle.formulas.specs.State.{FitsFormula}
use Rattle.grounding.specs.Conditions.{literals_in, may_hold_in, IsConditionOf}
use Rattle.grounding.specs.declared.changes.CountingChange.{CountingChange}
use Rattle.grounding.specs.declared.changes.ChangeCondition.{ChangeCondition}
use Rattle.grounding.specs.NumberedEffects.{Guard, NumberedEffect, effects_of_instance}
use Rattle.model.specs.Task.{Task, Atom, Instance}
use Rattle.model.specs.NumberedLiterals as model
use Rattle.model.specs.ConditionalChanges.{ConditionalChange}

abbrev pub counting_of : CountingChange → model.NumberedChange
counting_of c = record { atom = c.atom; value = c.value; is_unconditional = is_none c.condition }

-- What it asks beside its literals can be met in some packed state, or else one of them wants an atom without a number: a change
-- counts only where its condition is not statically false.
abbrev pub conditional_of : CountingChange → ConditionalChange
conditional_of c = record {
  change = counting_of c;
  condition = option_map_or (λ (under : Box ChangeCondition). literals_in under.value.condition) c.condition [];
  requires_unnumbered = option_map_or (λ (under : Box ChangeCondition). not (may_hold_in under.value.condition)) c.condition false;
}

abbrev pub guard_of_condition : Box ChangeCondition → Guard
guard_of_condition c = record { formula = formula_of c.value.formula.now; binding = map object_of c.value.binding.items }

abbrev pub guard_in : Option (Box ChangeCondition) → Option Guard
guard_in o = option_map guard_of_condition o

abbrev pub effect_in : CountingChange → NumberedEffect
effect_in c = record { atom = c.atom; value = c.value; guard = guard_in c.condition }

-- the formula is well-typed for the binding
abbrev pub GuardFits : Task → Option Guard → Type 0
GuardFits t o = (g : Guard) → o ≡ Some g → FitsFormula t g.formula g.binding

-- the same of each change
abbrev pub AllGuardsFit : Task → List NumberedEffect → Type 0
AllGuardsFit t effects = (k : ℕ) (e : NumberedEffect) → slice_get effects k ≡ Some e → GuardFits t e.guard

-- the compiled condition, if there is one, is that of its formula and binding
abbrev pub IsCompiled : Task → List Atom → Option (Box ChangeCondition) → Type 0
IsCompiled t atoms o = (c : Box ChangeCondition) → o ≡ Some c → IsConditionOf t atoms (guard_of_condition c).formula (guard_of_condition c).binding c.value.condition

abbrev pub AreCompiled : Task → List Atom → List CountingChange → Type 0
AreCompiled t atoms changes = (k : ℕ) (c : CountingChange) → slice_get changes k ≡ Some c → IsCompiled t atoms c.condition

-- the changes are those of the instance that count and whose atoms have numbers
pub record AreChangesOf (t : Task) (atoms : List Atom) (i : Instance) (changes : Vec CountingChange) : Type 0 where
  pub effects : map effect_in changes.items ≡ effects_of_instance t atoms i
  pub compiled : AreCompiled t atoms changes.items
