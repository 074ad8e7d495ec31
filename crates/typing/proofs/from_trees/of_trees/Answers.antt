use Rattle.pddl_tree.specs.Tree.{domain_of, problem_of}
use Rattle.model.specs.Typing.{faults_of}
use Rattle.typing.proofs.from_trees.of_trees.Goals as goal

pub returns-in-Err-clause-least : goal.returns-in-Err-clause-least
returns-in-Err-clause-least c = c.least.ensures (faults_of (domain_of c.args.domain.now) (problem_of c.args.problem.now)) c.in-Err.ensures.reported
