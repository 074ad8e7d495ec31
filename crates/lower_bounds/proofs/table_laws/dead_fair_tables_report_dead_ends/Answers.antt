use Rattle.lower_bounds.proofs.TableLowerBound.{dead_fair_ones_report_dead_ends}
use Rattle.lower_bounds.proofs.table_laws.dead_fair_tables_report_dead_ends.Goals as goal

pub returns : goal.returns
returns c = dead_fair_ones_report_dead_ends
