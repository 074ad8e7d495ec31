-- The code's parts of formulas and their histories, in the model's terms.
use Rattle.std.specs.Prelude.{◌≡◌, ℕ, Bool, false, nat_lt, List, length, map, take, get_or, slice_get, Some, All, ◌++◌, if◌then◌else◌}
use Rattle.explain_plans.specs.declared.false_parts.Part as part
use Rattle.explain_plans.specs.declared.false_parts.Context.{Context}
use Rattle.explain_plans.specs.declared.false_parts.Found.{Found}
use Rattle.explain_plans.specs.declared.histories.History as history
use Rattle.explain_plans.specs.declared.histories.History.TheVariants.{Always, ByStep}
use Rattle.explain_plans.specs.FalseParts.{Part, false_parts, part_holds}
use Rattle.explain_plans.specs.Histories.{History, always, by_step, IsHistory}
use Rattle.task.specs.Names.{names_in}
use Rattle.task.specs.Task.{task_of}
use Rattle.task.specs.TaskParts.{object_of, formula_of}
use Rattle.formulas.specs.State.{FitsFormula, state_of}
use Rattle.model.specs.Task as task
use Rattle.model.specs.Meaning.{State}

abbrev pub part_of : part.Part → Part
part_of p = record { formula = formula_of p.formula.now; objects = map object_of p.objects.items; names = names_in p.names.now }

abbrev pub history_of : history.History → History
history_of Always = always
history_of (ByStep step) = by_step step

-- the maximum number of reported false parts
abbrev pub most_reported : ℕ
most_reported = 20

-- these are the first few false parts, with whether there are more
pub record AreFirst (all : List Part) (reported : List part.Part) (more : Bool) : Type 0 where
  pub first : map part_of reported ≡ take most_reported all
  pub others : more ≡ nat_lt most_reported (length all)

-- the history at each part's index belongs to the part
abbrev pub AreHistories : task.Task → List task.Instance → List part.Part → List history.History → Type 0
AreHistories t steps parts histories =
    (number : ℕ) (one : part.Part) → slice_get parts number ≡ Some one
    → IsHistory t steps (part_of one) (history_of (get_or histories number Always))

-- ---- intermediate definitions

-- the objects fit the variables in the part
abbrev pub FitsPart : task.Task → part.Part → Type 0
FitsPart t p = FitsFormula t (formula_of p.formula.now) (map object_of p.objects.items)

-- the part is false in the state
abbrev pub IsFalseIn : task.Task → State → part.Part → Type 0
IsFalseIn t state p = part_holds t state (part_of p) ≡ false

-- the first few of some parts are found, and each of these is false
pub record AreFound (t : task.Task) (state : State) (all : List Part) (found : Found) : Type 0 where
  pub reported : AreFirst all found.parts.items found.more
  pub fit : All (FitsPart t) found.parts.items
  pub are_false : All (IsFalseIn t state) found.parts.items

-- if `old` was found in the parts before these, `new` is found in all of them
abbrev pub Finds : task.Task → State → List Part → Found → Found → Type 0
Finds t state parts old new = (before : List Part) → AreFound t state before old → AreFound t state (before ++ parts) new

-- the objects of the context fit the variables in the formula
abbrev pub FitsIn : Context → task.Formula → Type 0
FitsIn c formula = FitsFormula (task_of c.task.now) formula (map object_of c.objects.now.items)

-- the minimal false parts of the formula in the context
abbrev pub false_parts_in : Context → task.Formula → List Part
false_parts_in c formula = false_parts (task_of c.task.now) formula (map object_of c.objects.now.items) (names_in c.names.now) (state_of c.state.now)

abbrev pub FindsIn : Context → List Part → Found → Found → Type 0
FindsIn c = Finds (task_of c.task.now) (state_of c.state.now)

-- The histories are updated by the state before the step with this number: a part that holds there may be made false by this
-- step; the others are unchanged.
abbrev pub Looked : task.Task → State → ℕ → List part.Part → List history.History → List history.History → Type 0
Looked t state step parts old new =
    (number : ℕ) (one : part.Part) → slice_get parts number ≡ Some one
    → history_of (get_or new number Always)
    ≡ (if part_holds t state (part_of one) then by_step step else history_of (get_or old number Always))
