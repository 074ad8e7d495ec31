-- The code's numbered literals, in the model's terms.
use Rattle.grounding_instances.specs.declared.numbers.NumberedLiteral.{NumberedLiteral}
use Rattle.model.specs.NumberedLiterals as model

abbrev pub numbered_of : NumberedLiteral → model.NumberedLiteral
numbered_of l = record { atom = l.atom; value = l.value }
