-- The objects that the actions of a task name: constants of PDDL that occur in an action.
use Rattle.std.specs.Prelude.{ℕ, List, [], ◌∷◌, ◌++◌}
use Rattle.std.specs.List.{flat_map}
use Rattle.model.specs.Task.{LiftedAtom, Term, variable, object, Formula, Formulas, atom, equal, and, or, not, imply, exists, forall, no_formula, more_formulas, EffectLiteral, add, delete, Effect, Effects, literal, both, each, when, no_effect, more_effects, Increase, by_number, by_function, Schema, Task}

abbrev pub named_in_term : Term → List ℕ
named_in_term (variable number) = []
named_in_term (object number) = number ∷ []

abbrev pub named_in_lifted : LiftedAtom → List ℕ
named_in_lifted a = flat_map named_in_term a.terms

abbrev mutual
  pub named_in_formula : Formula → List ℕ
  named_in_formula (atom a) = named_in_lifted a
  named_in_formula (equal t u) = named_in_term t ++ named_in_term u
  named_in_formula (and parts) = named_in_formulas parts
  named_in_formula (or parts) = named_in_formulas parts
  named_in_formula (not part) = named_in_formula part
  named_in_formula (imply premise conclusion) = named_in_formula premise ++ named_in_formula conclusion
  named_in_formula (exists types part) = named_in_formula part
  named_in_formula (forall types part) = named_in_formula part

  pub named_in_formulas : Formulas → List ℕ
  named_in_formulas no_formula = []
  named_in_formulas (more_formulas first rest) = named_in_formula first ++ named_in_formulas rest

abbrev pub named_in_literal : EffectLiteral → List ℕ
named_in_literal (add a) = named_in_lifted a
named_in_literal (delete a) = named_in_lifted a

abbrev mutual
  pub named_in_effect : Effect → List ℕ
  named_in_effect (literal l) = named_in_literal l
  named_in_effect (both parts) = named_in_effects parts
  named_in_effect (each types part) = named_in_effect part
  named_in_effect (when condition literals) = named_in_formula condition ++ flat_map named_in_literal literals

  pub named_in_effects : Effects → List ℕ
  named_in_effects no_effect = []
  named_in_effects (more_effects first rest) = named_in_effect first ++ named_in_effects rest

abbrev pub named_in_increase : Increase → List ℕ
named_in_increase (by_number amount) = []
named_in_increase (by_function f) = named_in_lifted f

abbrev pub named_in_schema : Schema → List ℕ
named_in_schema s = named_in_formula s.precondition ++ named_in_effect s.effect ++ named_in_increase s.increase

-- in a precondition, an effect or a cost increase; the goal may name others
abbrev pub named_in_actions : Task → List ℕ
named_in_actions task = flat_map named_in_schema task.schemas
