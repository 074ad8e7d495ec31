use Rattle.std.proofs.Common.{◌∙◌, sym, ap, length}
use Rattle.grounding.specs.declared.ground.Ground.{Ground}
use Rattle.grounding.specs.Ground.{task_in, atoms_in}
use Rattle.model.specs.Grounding.{ground_system}
use Rattle.potentials_improved.specs.FairPotentials.{ground_in}
use Rattle.solver_tests.proofs.plain_certificates.is_found.Goals as goal

pub new-guide-requires-clause-system : goal.new-guide-requires-clause-system
new-guide-requires-clause-system c = ap (λ (g : Ground). ground_system (task_in g) (atoms_in g)) (c.requires.dead_ends ∙ sym c.requires.fair)

pub new-guide-requires-clause-width : goal.new-guide-requires-clause-width
new-guide-requires-clause-width c = ap (λ (g : Ground). length (atoms_in g)) (c.requires.dead_ends ∙ sym c.requires.fair)

pub best_first-requires-clause-made_for : goal.best_first-requires-clause-made_for
best_first-requires-clause-made_for c = ap (λ (g : Ground). ground_system (task_in g) (atoms_in g)) (ap ground_in c.new-guide.ensures.estimate ∙ c.requires.fair)

pub best_first-requires-clause-guide_width : goal.best_first-requires-clause-guide_width
best_first-requires-clause-guide_width c = ap (λ (g : Ground). length (atoms_in g)) (ap ground_in c.new-guide.ensures.estimate ∙ c.requires.fair)
