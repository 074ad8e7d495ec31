use Rattle.model.specs.Grammar.{problem_tree}
use Rattle.pddl_tree.specs.Tree.{problem_of}
use Rattle.explain_words.proofs.refusals.refused_problem.Goals as goal

pub returns-in-Ok : goal.returns-in-Ok
returns-in-Ok c = (problem_tree (problem_of c.in-Ok._tree), c.in-Ok.ensures.tree)
