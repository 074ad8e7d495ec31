use Rattle.std.proofs.Common.{◌∙◌, ◌++◌, ap, sym, map}
use Rattle.std.specs.List.{flat_map}
use Rattle.std.proofs.lemmas.List.{take_all}
use Rattle.task.specs.TaskParts.{formula_of}
use Rattle.grounding_instances.specs.Literals.{decided_literals}
use Rattle.grounding_instances.specs.Parameters.{lent_formula}
use Rattle.grounding_instances.proofs.DecidedLiterals.{decided_by_parts}
use Rattle.grounding_instances.proofs.parameters.+add_decided.Goals as goal

pub returns-after-loop-part : goal.returns-after-loop-part
returns-after-loop-part t c =
    let items = c.deref-part-items.result.now in
    c.loop-part.invariant
    ∙ ap (λ l. map lent_formula c.args.found.now.items ++ l)
    (ap (flat_map (λ part. decided_literals c.args.count (formula_of part))) (take_all c.loop-part.part-index items c.loop-part-test.false)
    ∙ sym (decided_by_parts c.args.count c.args.formula.now c.in-And.parts items c.in-And.is c.deref-part-items.ensures.value))
