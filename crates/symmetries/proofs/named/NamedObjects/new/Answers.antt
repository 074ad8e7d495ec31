use Rattle.std.proofs.Common.{◌≡◌, ◌∙◌, ◌++◌, ap, map}
use Rattle.std.specs.List.{flat_map}
use Rattle.formulas.specs.Mentions.{schema_mentions}
use Rattle.formulas.specs.MentionViews.{mention_of}
use Rattle.task.specs.Task.{task_of}
use Rattle.symmetries.specs.Named.{is_among, named_by}
use Rattle.symmetries.proofs.NamedLists.{naming_among, of_schemas}
use Rattle.symmetries.proofs.named.NamedObjects.new.Goals as goal

pub returns : goal.returns
returns c = λ o.
    let schemas = (task_of c.args.task.now).schemas in
    let found = map mention_of c.deref.result.now in
    let are : found ≡ flat_map schema_mentions schemas =
    ap (map mention_of) c.deref.ensures.value ∙ c.in_ok-add_action_mentions.ensures
    ∙ ap (λ l. map mention_of l ++ flat_map schema_mentions schemas) c.new-mentions.ensures.items in
    c.in_ok-table.ensures o ∙ naming_among o found ∙ ap (λ l. is_among l o) (ap (flat_map named_by) are ∙ of_schemas schemas)
