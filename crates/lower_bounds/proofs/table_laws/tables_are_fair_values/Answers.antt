use Rattle.lower_bounds.proofs.FairValues.{tables_are_fair_values as it}
use Rattle.lower_bounds.proofs.table_laws.tables_are_fair_values.Goals as goal

pub returns : goal.returns
returns c = it
