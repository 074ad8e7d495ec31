-- A scope of the code, in the definitions' terms.
use Rattle.std.specs.Prelude.{ℕ, List, map}
use Rattle.std.specs.Borrow.{Bor}
use Rattle.explain_plans.specs.FormulaText.{Scope}
use Rattle.task.specs.Names.{names_in}
use Rattle.explain_plans.specs.declared.formula_text.Scope as code
use Rattle.task.specs.TaskParts.{object_of}

abbrev pub scope_of : code.Scope → Scope
scope_of s = record { objects = map object_of s.objects.now; names = map (λ (name : Bor (List ℕ)). name.now) s.names.now; coming = names_in s.coming.now }
