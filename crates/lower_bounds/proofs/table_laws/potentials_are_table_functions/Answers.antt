use Rattle.lower_bounds.proofs.WithoutTables.{potentials_are_table_functions}
use Rattle.lower_bounds.proofs.table_laws.potentials_are_table_functions.Goals as goal

pub returns : goal.returns
returns c = potentials_are_table_functions
