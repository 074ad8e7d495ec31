use Rattle.lower_bounds.proofs.Certain.{certain_changes}
use Rattle.lower_bounds.proofs.table_laws.certain_changes_have_one_after.Goals as goal

pub returns : goal.returns
returns c = certain_changes
