use Rattle.symmetries_definitions.proofs.TestLemmas.{test_is_exact}
use Rattle.symmetries_definitions.proofs.laws.test_is_exact.Goals as goal

pub returns : goal.returns
returns c = test_is_exact
