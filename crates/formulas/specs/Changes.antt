-- The code's passes, in the model's terms.
use Rattle.std.specs.Prelude.{List}
use Rattle.std.specs.FinSet.{from_list, union, difference}
use Rattle.formulas.specs.declared.change.Pass.{Pass}
use Rattle.formulas.specs.declared.change.Pass.TheVariants.{Deletes, Adds}
use Rattle.model.specs.Meaning.{State, GroundLiteral, added_by, deleted_by}

-- the state without the deleted atoms, or with the added ones, depending on the pass
abbrev pub after_pass : Pass → State → List GroundLiteral → State
after_pass Deletes state literals = difference state (from_list (deleted_by literals))
after_pass Adds state literals = union state (from_list (added_by literals))
