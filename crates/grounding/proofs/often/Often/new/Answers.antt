use Rattle.std.proofs.Common.{◌<◌, sym, subst}
use Rattle.std.specs.List.{All}
use Rattle.grounding.specs.Conditions.{literals_in}
use Rattle.grounding.proofs.often.Often.new.Goals as goal
use Rattle.model.specs.NumberedLiterals.{NumberedLiteral}

pub new-requires-clause-within : goal.new-requires-clause-within
new-requires-clause-within c k condition at =
    subst (λ w. All (λ (l : NumberedLiteral). l.atom < w) (literals_in condition)) (sym c.width-2.ensures) (c.requires.within k condition at)
