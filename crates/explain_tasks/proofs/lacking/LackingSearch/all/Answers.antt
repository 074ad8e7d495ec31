use Rattle.std.proofs.Common.{rules, ◌≡◌, ◌∙◌, [], ap, map, length}
use Rattle.std.specs.List.{flat_map, range_with_len}
use Rattle.formulas.specs.State.{instance_of}
use Rattle.grounding_instances.specs.Numbering.{task_in}
use Rattle.model.specs.Task.{Task}
use Rattle.explain_tasks.specs.Costs.{lacking_among, looked_at, with_lacking}
use Rattle.explain_tasks.proofs.FoldLemmas.{folded_number}
use Rattle.explain_tasks.proofs.lacking.LackingSearch.all.Goals as goal

pub loop-number-preserved : goal.loop-number-preserved
loop-number-preserved c =
    let t = task_in c.args.self.now.numbering.now in
    folded_number (with_lacking t c.args.self.now.limit) (looked_at t c.args.self.now.most) c.loop-number.number [] (map instance_of c.loop-number.found.items) (map instance_of c.add_of_schema.new.found.items)
    c.in_ok-add_of_schema.ensures c.loop-number.invariant

pub returns : goal.returns
returns c =
    let t = task_in c.args.self.now.numbering.now in
    let ended : c.loop-number.number ≡ c.schema_count-number-end.result = search rules in
    c.loop-number.invariant
    ∙ ap (λ n. lacking_among t c.args.self.now.limit [] (flat_map (looked_at t c.args.self.now.most) (range_with_len 0 n)))
    (ended ∙ c.schema_count-number-end.ensures ∙ ap (λ (u : Task). length u.schemas) c.task.ensures)
