use Rattle.search.proofs.progress.Progress.into_plan.Goals as goal

pub steps_to-requires : goal.steps_to-requires
steps_to-requires g c = rw c.deref.ensures.value c.requires.reached
