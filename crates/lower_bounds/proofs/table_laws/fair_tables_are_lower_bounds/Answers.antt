use Rattle.lower_bounds.proofs.TableLowerBound.{fair_ones_are_lower_bounds}
use Rattle.lower_bounds.proofs.table_laws.fair_tables_are_lower_bounds.Goals as goal

pub returns : goal.returns
returns c = fair_ones_are_lower_bounds
