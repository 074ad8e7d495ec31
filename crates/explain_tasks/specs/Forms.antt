-- The language features used in the formulas and effects of a task.
use Rattle.std.specs.Prelude.{◌≡◌, Bool, true, false, List, [], ◌∷◌, ◌++◌}
use Rattle.std.specs.List.{flat_map, fold, list_any}
use Rattle.model.specs.Task.{Task, Schema, Formula, Formulas, atom, equal, and, or, not, imply, exists, forall, no_formula, more_formulas, Effect, Effects, literal, both, each, when, no_effect, more_effects}
use Rattle.explain_tasks.specs.declared.forms.Forms.{Forms}

-- Language features, each with a requirement of its own (PDDL 1.2 manual, "Requirements"; for negations Fox & Long 2003, PDDL
-- 2.1).
pub data Form : Type 0 where
  conditional_effect : Form
  quantifier : Form
  negation : Form
  disjunction : Form

abbrev mutual
  -- the features of a formula and its parts; an `imply` is a disjunction
  pub forms_in : Formula → List Form
  forms_in (atom a) = []
  forms_in (equal t u) = []
  forms_in (and parts) = forms_in_all parts
  forms_in (or parts) = disjunction ∷ forms_in_all parts
  forms_in (not part) = negation ∷ forms_in part
  forms_in (imply premise conclusion) = disjunction ∷ forms_in premise ++ forms_in conclusion
  forms_in (exists types part) = quantifier ∷ forms_in part
  forms_in (forall types part) = quantifier ∷ forms_in part

  pub forms_in_all : Formulas → List Form
  forms_in_all no_formula = []
  forms_in_all (more_formulas first rest) = forms_in first ++ forms_in_all rest

abbrev mutual
  -- the features of an effect, its parts and its conditions
  pub forms_in_effect : Effect → List Form
  forms_in_effect (literal l) = []
  forms_in_effect (both parts) = forms_in_effects parts
  forms_in_effect (each types part) = quantifier ∷ forms_in_effect part
  forms_in_effect (when condition literals) = conditional_effect ∷ forms_in condition

  pub forms_in_effects : Effects → List Form
  forms_in_effects no_effect = []
  forms_in_effects (more_effects first rest) = forms_in_effect first ++ forms_in_effects rest

-- the features of the precondition and the effect of a schema
abbrev pub forms_of_schema : Schema → List Form
forms_of_schema s = forms_in s.precondition ++ forms_in_effect s.effect

-- the features of the goal and the schemas of a task
abbrev pub forms_of_task : Task → List Form
forms_of_task t = forms_in t.goal ++ flat_map forms_of_schema t.schemas

abbrev pub is_same : Form → Form → Bool
is_same conditional_effect conditional_effect = true
is_same quantifier quantifier = true
is_same negation negation = true
is_same disjunction disjunction = true
is_same _ _ = false

-- whether the task uses the feature
abbrev pub has : Task → Form → Bool
has t form = list_any (is_same form) (forms_of_task t)

-- the reported features are exactly those of the task
pub record AreForms (t : Task) (forms : Forms) : Type 0 where
  pub conditional_effects : forms.conditional_effects ≡ has t conditional_effect
  pub quantifiers : forms.quantifiers ≡ has t quantifier
  pub negations : forms.negations ≡ has t negation
  pub disjunctions : forms.disjunctions ≡ has t disjunction

-- ---- intermediate definitions

abbrev pub with_form : Forms → Form → Forms
with_form forms conditional_effect = record forms { conditional_effects = true }
with_form forms quantifier = record forms { quantifiers = true }
with_form forms negation = record forms { negations = true }
with_form forms disjunction = record forms { disjunctions = true }

-- these features are added to the report
abbrev pub added : Forms → List Form → Forms
added = fold with_form
