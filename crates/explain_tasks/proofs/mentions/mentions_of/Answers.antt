use Rattle.std.proofs.Common.{◌≡◌, ◌∙◌, ◌++◌, ap, sym, map}
use Rattle.std.specs.List.{flat_map}
use Rattle.task.specs.Task.{task_of}
use Rattle.task.specs.TaskParts.{atom_of}
use Rattle.formulas.specs.Mentions.{mentions, schema_mentions}
use Rattle.explain_tasks.specs.Mentions.{fact_mentions}
use Rattle.formulas.specs.MentionViews.{mention_of}
use Rattle.formulas.proofs.MentionLemmas.{flat_map_map}
use Rattle.explain_tasks.proofs.mentions.mentions_of.Goals as goal

pub returns : goal.returns
returns c =
    let t = task_of c.args.task.now in
    let of_goal : map mention_of c.add_formula_mentions.new.found.items ≡ mentions t.goal =
    c.in_ok-add_formula_mentions.ensures ∙ (λ i. map mention_of (c.new-found.ensures.items i) ++ mentions (c.goal.ensures i)) in
    let of_facts : flat_map (λ fact. fact_mentions (atom_of fact)) c.init.result.now ≡ flat_map fact_mentions t.init =
    sym (flat_map_map fact_mentions atom_of c.init.result.now) ∙ ap (flat_map fact_mentions) c.init.ensures in
    let of_schemas : map mention_of c.add_action_mentions.new.found.items ≡ mentions t.goal ++ flat_map schema_mentions t.schemas =
    c.in_ok-add_action_mentions.ensures ∙ ap (λ l. l ++ flat_map schema_mentions t.schemas) of_goal in
    c.in_ok-add_facts.ensures ∙ (λ i. of_schemas i ++ of_facts i)
