use Rattle.std.proofs.Common.{◌∙◌, ◌++◌, ap}
use Rattle.std.specs.List.{flat_map}
use Rattle.std.proofs.lemmas.List.{take_all}
use Rattle.task.specs.TaskParts.{formula_of}
use Rattle.symmetries_definitions.specs.Symmetries.{conjuncts}
use Rattle.symmetries.specs.Lent.{formulas_lent}
use Rattle.symmetries.proofs.ConjunctLemmas.{conjuncts_by_parts}
use Rattle.symmetries.proofs.conjuncts.+add_conjuncts.Goals as goal

pub returns-after-loop-part : goal.returns-after-loop-part
returns-after-loop-part t c =
    let items = c.deref-part-items.result.now in
    c.loop-part.invariant
    ∙ ap (λ l. formulas_lent c.args.found.now.items ++ l)
    (ap (flat_map (λ part. conjuncts (formula_of part))) (take_all c.loop-part.part-index items c.loop-part-test.false)
    ∙ conjuncts_by_parts c.args.formula.now c.in-And.parts items c.in-And.is c.deref-part-items.ensures.value)
