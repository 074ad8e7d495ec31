-- The code's literals, in the model's terms.
use Rattle.formulas.specs.declared.literals.Literal.{Literal}
use Rattle.formulas.specs.declared.literals.Literal.TheVariants.{IsTrue, IsFalse, AreSame, AreDifferent}
use Rattle.task.specs.TaskParts.{atom_of}
use Rattle.model.specs.SureLiterals as model

abbrev pub literal_of : Literal → model.Literal
literal_of (IsTrue a) = model.is_true (atom_of a)
literal_of (IsFalse a) = model.is_false (atom_of a)
literal_of (AreSame a b) = model.are_same a.0 b.0
literal_of (AreDifferent a b) = model.are_different a.0 b.0
