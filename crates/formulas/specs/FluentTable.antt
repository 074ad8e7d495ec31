-- Tables of predicates, in the model's terms.
use Rattle.std.specs.Prelude.{◌≡◌, ℕ}
use Rattle.formulas.specs.Marks.{is_marked}
use Rattle.formulas.specs.declared.fluent_predicates.FluentPredicates.{FluentPredicates}
use Rattle.model.specs.Task.{Task}
use Rattle.model.specs.Fluents.{is_fluent}

-- the table contains exactly the task's fluent predicates
abbrev pub AreFluentsOf : Task → FluentPredicates → Type 0
AreFluentsOf t fluents = (predicate : ℕ) → is_marked fluents.table.items predicate ≡ is_fluent t predicate
