use Rattle.std.proofs.Common.{length}
use Rattle.table_rows.proofs.indexed.IndexedTable.+raise_to.Given as goal

abbrev pub decreases-raise_to : goal.decreases-raise_to
decreases-raise_to l = length l.free.now
