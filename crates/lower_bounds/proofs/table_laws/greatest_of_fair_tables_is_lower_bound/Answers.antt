use Rattle.lower_bounds.proofs.TableLowerBound.{greatest_is_lower_bound}
use Rattle.lower_bounds.proofs.table_laws.greatest_of_fair_tables_is_lower_bound.Goals as goal

pub returns : goal.returns
returns c = greatest_is_lower_bound
