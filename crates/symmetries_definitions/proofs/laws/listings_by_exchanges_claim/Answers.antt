use Rattle.symmetries_definitions.proofs.TaskOrbits.{listings_by_exchanges_claim}
use Rattle.symmetries_definitions.proofs.laws.listings_by_exchanges_claim.Goals as goal

pub returns : goal.returns
returns c = listings_by_exchanges_claim
