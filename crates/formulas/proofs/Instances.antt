-- When an instance belongs to the task, and when objects fit a formula.
use Rattle.std.specs.Prelude.{◌≡◌, ℕ, ◌≤◌, true, false, List, [], length, slice_get, IsTrue, Some}
use Rattle.std.proofs.Common.{sym, ◌∙◌, ap, subst}
use Rattle.std.specs.Cmp.{first_so, second_so}
use Rattle.std.specs.Cmp.Lexicographic.{pointwise}
use Rattle.std.specs.Option.{option_map, option_map_or}
use Rattle.task.specs.declared.atoms.LiftedAtom.{LiftedAtom}
use Rattle.task.specs.TaskParts.{lifted_atom_of, shape_of_schema}
use Rattle.formulas.specs.State.{FitsFormula, FitsEffect}
use Rattle.model.specs.Task as task
use Rattle.model.specs.WellTyped.{is_task, is_increase, is_formula, is_effect, max_arguments}
use Rattle.model.specs.Meaning.{is_of, fits, is_instance}
use Rattle.task.proofs.Shapes.{Shape, found, typed_schema}
use Rattle.formulas.proofs.Tasks.{function_terms_few}

module _ (t : task.Task) (schema : ℕ) (shape : Shape) (is_shape : Some shape ≡ option_map shape_of_schema (slice_get t.schemas schema)) (objects : List ℕ) where
  abbrev it : (s : task.Schema) × (slice_get t.schemas schema ≡ Some s) × (shape ≡ shape_of_schema s)
  it = found (slice_get t.schemas schema) shape is_shape

  -- only the objects matter
  pub instance_by_objects : pointwise (is_of t) shape.0 objects ≡ is_instance t (record { schema = schema; objects = objects })
  instance_by_objects =
      ap (λ (s : Shape). pointwise (is_of t) s.0 objects) it.2 ∙ sym (ap (λ o. option_map_or (λ s. fits t s objects) o false) it.1)

  -- an increase by a function has no more terms than arguments are allowed
  pub function_few : (f : LiftedAtom) → shape.3 ≡ task.by_function (lifted_atom_of f) → IsTrue (is_task t) → length f.terms.items ≤ max_arguments
  function_few f is well =
      function_terms_few t shape.0 f well
      (ap (is_increase t shape.0) (sym is)
      ∙ subst (λ (s : Shape). is_increase t s.0 s.3 ≡ true) (sym it.2) (second_so _ _ (first_so _ _ (first_so _ _ (typed_schema t schema shape is_shape well)))))

  module _ (instance : IsTrue (is_instance t (record { schema = schema; objects = objects }))) where
    fitting : fits t it.0 objects ≡ true
    fitting = sym (ap (λ o. option_map_or (λ s. fits t s objects) o false) it.1) ∙ instance

    -- one object of the right types for each parameter
    parameters_fit : IsTrue (pointwise (is_of t) shape.0 objects)
    parameters_fit = instance_by_objects ∙ instance

    pub precondition_fits : IsTrue (is_task t) → FitsFormula t shape.1 objects
    precondition_fits well = record {
      scope = shape.0;
      typed = subst (λ (s : Shape). is_formula t s.0 s.1 ≡ true) (sym it.2) (second_so _ _ (first_so _ _ (typed_schema t schema shape is_shape well)));
      fits = parameters_fit;
    }

    pub effect_fits : IsTrue (is_task t) → FitsEffect t shape.2 objects
    effect_fits well = record {
      scope = shape.0;
      typed = subst (λ (s : Shape). is_effect t s.0 s.2 ≡ true) (sym it.2) (second_so _ _ (typed_schema t schema shape is_shape well));
      fits = parameters_fit;
    }

-- the goal is well-typed without parameters
pub goal_fits : (t : task.Task) (formula : task.Formula) (objects : List ℕ) → formula ≡ t.goal → objects ≡ [] → IsTrue (is_task t) → FitsFormula t formula objects
goal_fits t formula objects is none well = record {
  scope = [];
  typed = ap (is_formula t []) is ∙ second_so _ _ well;
  fits = ap (pointwise (is_of t) []) none;
}
