use Rattle.lower_bounds.proofs.WithoutTables.{potentials_are_fair_values as it}
use Rattle.lower_bounds.proofs.table_laws.potentials_are_fair_values.Goals as goal

pub returns : goal.returns
returns c = it
