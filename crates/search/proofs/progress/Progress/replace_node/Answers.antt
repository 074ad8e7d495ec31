use Rattle.search.proofs.progress.Progress.replace_node.Goals as goal

pub returns-clause-bases : goal.returns-clause-bases
returns-clause-bases g c = rw c.improve.ensures.bases c.in_ok-set.ensures
