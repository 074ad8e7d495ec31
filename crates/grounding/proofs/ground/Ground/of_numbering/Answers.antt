use Rattle.std.proofs.Common.{◌∙◌, ◌<◌, List, ap, sym, subst}
use Rattle.std.specs.Prelude.{slice_get}
use Rattle.std.specs.List.{All}
use Rattle.grounding.specs.declared.condition.Condition.{Condition}
use Rattle.grounding.specs.Conditions.{literals_in}
use Rattle.grounding.proofs.WatchLemmas.{conditions-within}
use Rattle.model.specs.NumberedLiterals.{NumberedLiteral}
use Rattle.grounding.proofs.ground.Ground.of_numbering.Goals as goal

pub new-requires-clause-within : goal.new-requires-clause-within
new-requires-clause-within c k condition at =
    conditions-within c.args.numbering c.in_ok-conditions.conditions.items c.in_ok-conditions.ensures k condition (ap (λ (l : List Condition). slice_get l k) (sym c.deref.ensures.value) ∙ at)

pub new-requires-2-clause-within : goal.new-requires-2-clause-within
new-requires-2-clause-within c k condition at =
    subst (λ w. All (λ (l : NumberedLiteral). l.atom < w) (literals_in condition)) (sym c.width.ensures)
    (conditions-within c.args.numbering c.in_ok-conditions.conditions.items c.in_ok-conditions.ensures k condition (ap (λ (l : List Condition). slice_get l k) (sym c.deref-3.ensures.value) ∙ at))
