use Rattle.lower_bounds.proofs.WithoutTables.{ground_atoms_are_all_numbered}
use Rattle.lower_bounds.proofs.table_laws.ground_atoms_are_all_numbered.Goals as goal

pub returns : goal.returns
returns c = ground_atoms_are_all_numbered
