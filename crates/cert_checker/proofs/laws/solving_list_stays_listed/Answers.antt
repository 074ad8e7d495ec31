use Rattle.cert_checker.proofs.StaysLemmas.{solving_stays, solving_stays_alone}
use Rattle.cert_checker.proofs.laws.solving_list_stays_listed.Goals as goal

pub returns-clause-stays : goal.returns-clause-stays
returns-clause-stays c = solving_stays

pub returns-clause-alone : goal.returns-clause-alone
returns-clause-alone c = solving_stays_alone
