use Rattle.grounding.proofs.ground.Ground.new.Goals as goal

pub of_numbering-requires-clause-kept : goal.of_numbering-requires-clause-kept
of_numbering-requires-clause-kept c = c.in_ok-numbering.ensures.kept c.new-kept.ensures
