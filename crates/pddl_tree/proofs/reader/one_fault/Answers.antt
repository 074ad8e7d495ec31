use Rattle.model.proofs.GrammarOneRefusal.{one_refusal, whole_not_refused}
use Rattle.pddl_tree.proofs.reader.one_fault.Goals as goal

pub returns-clause-one : goal.returns-clause-one
returns-clause-one c = one_refusal

pub returns-clause-none : goal.returns-clause-none
returns-clause-none c = whole_not_refused
