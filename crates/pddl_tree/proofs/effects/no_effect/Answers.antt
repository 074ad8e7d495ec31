use Rattle.pddl_tree.proofs.Names.{map, ◌∙◌, ap, effects, effect_of}
use Rattle.model.specs.Trees as tree
use Rattle.pddl_tree.proofs.Rows.{effect_of-And}
use Rattle.pddl_tree.proofs.effects.no_effect.Goals as goal

pub returns : goal.returns
returns c = effect_of-And c.new.result ∙ ap (λ es. tree.both (effects (map effect_of es))) c.new.ensures.items
