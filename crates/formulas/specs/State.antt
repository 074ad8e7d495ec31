-- States, instances and plans of the code, in the model's terms, and when objects fit variables.
use Rattle.std.specs.Prelude.{ℕ, Bool, IsTrue, List, map, Contains}
use Rattle.std.specs.Cmp.Lexicographic.{pointwise}
use Rattle.std.specs.FinSet.{from_list}
use Rattle.std.specs.List.{list_all}
use Rattle.formulas.specs.declared.state.State.{State}
use Rattle.formulas.specs.declared.instance.Instance.{Instance}
use Rattle.formulas.specs.declared.plan.Plan.{Plan}
use Rattle.task.specs.TaskParts.{atom_of, object_of}
use Rattle.model.specs.Task as task
use Rattle.model.specs.Meaning as meaning
use Rattle.model.specs.WellTyped.{is_formula, is_effect, is_effect_literal}

abbrev pub state_of : State → meaning.State
state_of s = from_list (map atom_of s.atoms.keys)

abbrev pub instance_of : Instance → task.Instance
instance_of i = record { schema = i.schema.0; objects = map object_of i.objects.items }

-- the plan's instances, in order
abbrev pub plan_of : Plan → List task.Instance
plan_of p = map instance_of p.steps.items

-- There are types of variables under which something is well-typed, and these objects are of these types, one for each.
pub record FitsScope (t : task.Task) (is_typed : List task.Union → Bool) (objects : List ℕ) : Type 0 where
  pub scope : List task.Union
  pub typed : IsTrue (is_typed scope)
  pub fits : IsTrue (pointwise (meaning.is_of t) scope objects)

-- these objects fit the variables in the formula
abbrev pub FitsFormula : task.Task → task.Formula → List ℕ → Type 0
FitsFormula t formula objects = FitsScope t (λ scope. is_formula t scope formula) objects

-- the same for each of the formulas
abbrev pub FitsFormulas : task.Task → List task.Formula → List ℕ → Type 0
FitsFormulas t formulas objects = FitsScope t (λ scope. list_all (is_formula t scope) formulas) objects

-- the same for the effect
abbrev pub FitsEffect : task.Task → task.Effect → List ℕ → Type 0
FitsEffect t effect objects = FitsScope t (λ scope. is_effect t scope effect) objects

-- the same for the literal of an effect
abbrev pub FitsLiteral : task.Task → task.EffectLiteral → List ℕ → Type 0
FitsLiteral t literal objects = FitsScope t (λ scope. is_effect_literal t scope literal) objects

-- the same for each of the literals
abbrev pub FitsLiterals : task.Task → List task.EffectLiteral → List ℕ → Type 0
FitsLiterals t literals objects = FitsScope t (λ scope. list_all (is_effect_literal t scope) literals) objects

-- the objects of each of these changes fit the variables in its condition
abbrev pub FitsChanges : task.Task → List meaning.Change → Type 0
FitsChanges t changes = (change : meaning.Change) → Contains changes change → FitsFormula t change.condition change.binding
