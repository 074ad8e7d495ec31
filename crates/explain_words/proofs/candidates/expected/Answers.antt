use Rattle.pddl_tree.specs.Tree.{file_of}
use Rattle.explain_words.proofs.Reported.{all_reported}
use Rattle.explain_words.proofs.candidates.expected.Goals as goal

pub returns : goal.returns
returns c =
    all_reported (file_of c.args.file) c.args.before.now c.in-Ok.candidates.items c.deref.result.now c.candidate_bytes-text.result.now c.those_after.result
    c.candidate_bytes-text.ensures c.deref.ensures.value c.in-Ok.ensures.words c.those_after.ensures
