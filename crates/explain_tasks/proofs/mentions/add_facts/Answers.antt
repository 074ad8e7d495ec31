use Rattle.std.proofs.Common.{◌∙◌, ◌++◌, ap, map}
use Rattle.task.specs.TaskParts.{atom_of, object_of}
use Rattle.formulas.specs.Mentions.{named}
use Rattle.explain_tasks.specs.Mentions.{fact_mentions}
use Rattle.formulas.specs.MentionViews.{mention_of}
use Rattle.formulas.proofs.MentionLemmas.{come_next}
use Rattle.explain_tasks.proofs.mentions.add_facts.Goals as goal

pub loop-fact-preserved : goal.loop-fact-preserved
loop-fact-preserved c =
    let now = map mention_of c.loop-fact.found.items in
    come_next (λ fact. fact_mentions (atom_of fact)) c.args.facts.now c.loop-fact.fact-index (map mention_of c.args.found.now.items) c.fact-item.result now (map mention_of c.add_objects.new.found.items)
    c.loop-fact-test.true c.fact-item.is (c.in_ok-add_objects.ensures ∙ ap (λ l. now ++ map named (map object_of l)) c.as_slice.ensures.value) c.loop-fact.invariant
