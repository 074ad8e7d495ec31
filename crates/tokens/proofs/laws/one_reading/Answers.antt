use Rattle.tokens.proofs.Words.{one_reading_lem}
use Rattle.tokens.proofs.Order.{words_in_order}
use Rattle.tokens.proofs.laws.one_reading.Goals as goal

pub returns : goal.returns
returns c = record { one = one_reading_lem; in_order = words_in_order }
