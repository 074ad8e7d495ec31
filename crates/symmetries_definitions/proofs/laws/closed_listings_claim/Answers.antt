use Rattle.model.proofs.ClaimsLemmas.{closed_listings_claim}
use Rattle.symmetries_definitions.proofs.laws.closed_listings_claim.Goals as goal

pub returns : goal.returns
returns g c = closed_listings_claim g.C.AlikeStates.system g.C.AlikeStates.alike
