use Rattle.tables.specs.AllTables.{tables_of}
use Rattle.tables.proofs.KnownRowsLemmas.{still-known}
use Rattle.tables.proofs.known_rows.KnownRows.move_to.Goals as goal

pub find_touched-requires-clause-known : goal.find_touched-requires-clause-known
find_touched-requires-clause-known c =
    still-known (tables_of c.args.tables.now) c.args.self.now.projections c.move_to.new.self c.args.self.now.sums.rows.items c.move_to.ensures.moved c.requires.known.rows
