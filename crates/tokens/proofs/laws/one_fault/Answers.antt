use Rattle.tokens.proofs.Order.{reported_once, read_is_reported_nothing}
use Rattle.tokens.proofs.laws.one_fault.Goals as goal

pub returns : goal.returns
returns c = record { one = reported_once; none = read_is_reported_nothing }
