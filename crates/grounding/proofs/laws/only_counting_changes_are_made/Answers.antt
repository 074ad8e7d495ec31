use Rattle.model.proofs.StaticallyFalseLemmas.{only_counting_changes_are_made}
use Rattle.grounding.proofs.laws.only_counting_changes_are_made.Goals as goal

pub returns : goal.returns
returns c = only_counting_changes_are_made
