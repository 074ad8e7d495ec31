use Rattle.model.specs.Grammar.{domain_tree}
use Rattle.pddl_tree.specs.Tree.{domain_of}
use Rattle.explain_words.proofs.refusals.refused_domain.Goals as goal

pub returns-in-Ok : goal.returns-in-Ok
returns-in-Ok c = (domain_tree (domain_of c.in-Ok._tree), c.in-Ok.ensures.tree)
