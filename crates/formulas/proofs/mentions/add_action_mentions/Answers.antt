use Rattle.std.proofs.Common.{◌<◌, ◌≤◌, map, subst}
use Rattle.task.specs.Task.{task_of}
use Rattle.formulas.specs.Mentions.{schema_mentions}
use Rattle.formulas.specs.MentionViews.{mention_of}
use Rattle.formulas.proofs.MentionLemmas.{come_at, come_all}
use Rattle.formulas.proofs.mentions.add_action_mentions.Goals as goal

pub loop-number-preserved : goal.loop-number-preserved
loop-number-preserved c =
    come_at schema_mentions (task_of c.args.task.now).schemas c.loop-number.number (map mention_of c.args.found.now.items) (map mention_of c.loop-number.found.items) (map mention_of c.add_schema.new.found.items)
    (subst (λ count. c.loop-number.number < count) c.schema_count-number-end.ensures c.loop-number-test.true) c.in_ok-add_schema.ensures c.loop-number.invariant

pub returns : goal.returns
returns c =
    come_all schema_mentions (task_of c.args.task.now).schemas c.loop-number.number (map mention_of c.args.found.now.items) (map mention_of c.loop-number.found.items)
    (subst (λ count. count ≤ c.loop-number.number) c.schema_count-number-end.ensures c.loop-number-test.false) c.loop-number.invariant
