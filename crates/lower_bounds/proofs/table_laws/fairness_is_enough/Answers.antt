use Rattle.lower_bounds.proofs.TableLowerBound.{fairness_is_enough as it}
use Rattle.lower_bounds.proofs.table_laws.fairness_is_enough.Goals as goal

pub returns : goal.returns
returns c = it
