use Rattle.pddl_tree.proofs.Names.{map, ◌∙◌, ap, formulas, formula_of}
use Rattle.model.specs.Trees as tree
use Rattle.pddl_tree.proofs.Rows.{formula_of-And}
use Rattle.pddl_tree.proofs.formulas.no_condition.Goals as goal

pub returns : goal.returns
returns c = formula_of-And c.new.result ∙ ap (λ fs. tree.and (formulas (map formula_of fs))) c.new.ensures.items
