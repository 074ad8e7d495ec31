use Rattle.model.proofs.GrammarMeaning.{one_domain, one_problem}
use Rattle.pddl_tree.proofs.reader.one_reading.Goals as goal

pub returns-clause-domain : goal.returns-clause-domain
returns-clause-domain c = one_domain

pub returns-clause-problem : goal.returns-clause-problem
returns-clause-problem c = one_problem
