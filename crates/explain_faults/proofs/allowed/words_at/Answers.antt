use Rattle.pddl_tree.specs.Tree.{file_of}
use Rattle.explain_faults.proofs.ExpectedWords.{are_reported, may_occur}
use Rattle.explain_faults.proofs.allowed.words_at.Goals as goal

pub returns : goal.returns
returns c = record {
  occur =
      may_occur (file_of c.args.file) c.args.text.now c.args.refused.offset c.in-Ok.words.items c.deref.result.now c.words_before.result.now
      c.in-Ok.ensures.words c.deref.ensures.value c.words_before.ensures c.words_after.result c.words_after.ensures.follow;
  suggested =
      λ short reads. are_reported (file_of c.args.file) c.args.text.now c.args.refused.offset c.in-Ok.words.items c.deref.result.now c.words_before.result.now
      c.in-Ok.ensures.words c.deref.ensures.value c.words_before.ensures c.args.refused.bytes.now c.words_after.result c.words_after.ensures.suggested;
}
