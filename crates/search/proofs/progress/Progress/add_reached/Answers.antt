use Rattle.search.proofs.progress.Progress.add_reached.Goals as goal

pub returns-clause-bases : goal.returns-clause-bases
returns-clause-bases g c = rw c.add.ensures.bases c.in_ok-set.ensures
