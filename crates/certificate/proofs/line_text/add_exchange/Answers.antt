use Rattle.std.proofs.Common.{◌∙◌, ◌++◌, ap, codes}
use Rattle.std.specs.List.{flat_map}
use Rattle.task.specs.Task.{task_of}
use Rattle.model.specs.PlanWriting.{object_text}
use Rattle.symmetries_definitions.specs.Exchanges.{objects_in}
use Rattle.symmetries.specs.ObjectPairs.{pairs_in}
use Rattle.certificate.proofs.LineTextLemmas.{where_added, swap_text}
use Rattle.certificate.proofs.line_text.add_exchange.Goals as goal

pub returns : goal.returns
returns c =
    let task = task_of c.args.task.now in
    let e = pairs_in c.args.pairs.now in
    where_added c.extend_from_slice-2.result _ _ (codes "\n") _ c.extend_from_slice-2.ensures.items
    (ap (λ xs. xs ++ codes "\n") (c.in_ok-add_pairs.ensures ∙ ap (λ xs. xs ++ flat_map (object_text task) (objects_in e)) c.in_ok-extend_from_slice.ensures.items)
    ∙ swap_text task e c.args.text.now.items)
