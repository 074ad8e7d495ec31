-- A schema of the task by its shape: the types of its parameters, its precondition, its effect and its cost increase.
use Rattle.std.specs.Prelude.{◌≡◌, ℕ, ◌≤◌, true, nat_le, List, length, slice_get, IsTrue, Option, None, Some, refl}
use Rattle.std.proofs.Common.{sym, subst, arith}
use Rattle.std.specs.Cmp.{first_so, second_so}
use Rattle.std.specs.Option.{option_map}
use Rattle.std.proofs.lemmas.Bool.Decides.{nat_tests}
use Rattle.std.proofs.lemmas.Option.{none-some, same_Some}
use Rattle.task.specs.TaskParts.{shape_of_schema}
use Rattle.model.specs.Task as task
use Rattle.model.specs.WellTyped.{max_variables, is_task, is_schema}
use Rattle.model.proofs.Tests.{passes_got}

abbrev pub Shape : Type 0
Shape = List task.Union × task.Formula × task.Effect × task.Increase

-- the schema of this shape that a look-up found
pub found : (o : Option task.Schema) (shape : Shape) → Some shape ≡ option_map shape_of_schema o → (s : task.Schema) × (o ≡ Some s) × (shape ≡ shape_of_schema s)
found None shape e = absurd (none-some shape (sym e))
found (Some s) shape e = (s, refl, same_Some shape (shape_of_schema s) e)

few_here : (count : ℕ) → nat_le count max_variables ≡ true → count ≤ max_variables
few_here count few = grind (arith, nat_tests)

module _ (t : task.Task) (schema : ℕ) (shape : Shape) (is : Some shape ≡ option_map shape_of_schema (slice_get t.schemas schema)) where
  abbrev pub it : (s : task.Schema) × (slice_get t.schemas schema ≡ Some s) × (shape ≡ shape_of_schema s)
  it = found (slice_get t.schemas schema) shape is

  pub typed_schema : IsTrue (is_task t) → is_schema t it.0 ≡ true
  typed_schema well = passes_got (is_schema t) t.schemas schema it.0 it.1 (second_so _ _ (first_so _ _ (first_so _ _ well)))

  -- a schema of a well-typed task has few parameters
  pub few_parameters : IsTrue (is_task t) → length shape.0 ≤ max_variables
  few_parameters well =
      subst (λ (s : Shape). length s.0 ≤ max_variables) (sym it.2) (few_here (length it.0.parameters) (first_so _ _ (first_so _ _ (first_so _ _ (typed_schema well)))))
