use Rattle.cert_checker.proofs.StaysLemmas.{closed_holds, detects_dead_ends, value_below}
use Rattle.cert_checker.proofs.laws.closed_claim_holds.Goals as goal

pub returns-clause-claim : goal.returns-clause-claim
returns-clause-claim c = closed_holds

pub returns-clause-values : goal.returns-clause-values
returns-clause-values c = value_below

pub returns-clause-dead_ends : goal.returns-clause-dead_ends
returns-clause-dead_ends c = detects_dead_ends
