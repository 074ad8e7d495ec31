use Rattle.std.proofs.Common.{◌∙◌, [], sym, subst}
use Rattle.grounding.specs.declared.ground.Ground.{Ground}
use Rattle.grounding.specs.Ground.{task_in, atoms_in}
use Rattle.lower_bounds.specs.TableLaws.{AreAllNumbered}
use Rattle.guides.proofs.GuideLemmas.{all_numbered}
use Rattle.tables.specs.Several.{several_of, ReportsValues}
use Rattle.search_spaces.specs.SearchSpace.{ground_in}
use Rattle.solver.proofs.fair_guide.guide_if_fair.Goals as goal

pub new-guide-requires-clause-numbered : goal.new-guide-requires-clause-numbered
new-guide-requires-clause-numbered g c =
    subst (λ (k : Ground). AreAllNumbered (task_in k) (atoms_in k)) (sym c.ground-ground.ensures) (all_numbered (ground_in c.args.setting.space) [] c.requires.space.atoms)

pub new-guide-requires-clause-fair : goal.new-guide-requires-clause-fair
new-guide-requires-clause-fair g c = subst (ReportsValues (task_in c.ground-ground.result.now) (atoms_in c.ground-ground.result.now) (several_of c.args.functions)) c.in-Fair.is c.in_ok-fairness.ensures

pub returns-in-Fair-clause-ground : goal.returns-in-Fair-clause-ground
returns-in-Fair-clause-ground g c = c.new-guide.ensures.ground ∙ c.ground-ground.ensures
